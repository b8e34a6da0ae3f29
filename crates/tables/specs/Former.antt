-- The examination as document 01 alone has it, with number 5 for a bad pair, which No. 1 of document 02 splits in four; and a reply of now as it was told then.
use Rattle.std.specs.Prelude.{Bool, true, false, not, ◌&&◌, ◌||◌, List, [], ◌∷◌, ℕ, zero, suc, ◌/◌, ltb, leb, eqb, length, get_or}
use Rattle.problem.specs.Tables.{Tables, boats, listed, lower, higher}
use Rattle.problem.specs.Replies.{Told, refused}
use Rattle.tables.specs.Tests.{Test, once, each, first_of}
use Rattle.tables.specs.Examination.{too_many_boats, is_bad_size, bad_pair_bytes, bad_row_words, bad_word, fine_told}

-- 5: a pair not lower-then-higher, naming no boat, or not above the pair before
abbrev pub not_lower_then_higher : List ℕ → ℕ → Bool
not_lower_then_higher pairs k = leb (higher pairs k) (lower pairs k)

abbrev pub either_no_boat : (n : ℕ) → List ℕ → ℕ → Bool
either_no_boat n pairs k = leb n (lower pairs k) || leb n (higher pairs k)

abbrev pub is_above : List ℕ → (k before : ℕ) → Bool
is_above pairs k before =
    ltb (lower pairs before) (lower pairs k)
    || (eqb (lower pairs before) (lower pairs k) && ltb (higher pairs before) (higher pairs k))

abbrev pub not_above_pair_before : List ℕ → ℕ → Bool
not_above_pair_before pairs zero = false
not_above_pair_before pairs (suc k) = not (is_above pairs (suc k) k)

unfoldable pub bad_pair : (n : ℕ) → List ℕ → ℕ → Bool
bad_pair n pairs k = not_lower_then_higher pairs k || either_no_boat n pairs k || not_above_pair_before pairs k

-- the tests of then; all but 5 are those of now
abbrev pub former_tests : Tables → List Test
former_tests t =
    once 2 (too_many_boats t)
    ∷ each 3 (boats t) (is_bad_size t.sizes)
    ∷ once 4 (bad_pair_bytes t.pairs)
    ∷ each 5 (listed t.pairs) (bad_pair (boats t) t.pairs)
    ∷ once 6 (bad_row_words t)
    ∷ each 7 (length t.rows) (bad_word t)
    ∷ []

unfoldable pub former_examination : Tables → Told
former_examination t = first_of (former_tests t) (fine_told t)

-- a refusal by 51 to 54, and what it was: 5, at the pair of its byte
abbrev pub of_pairs : (number : ℕ) → Bool
of_pairs number = eqb number 151 || eqb number 152 || eqb number 153 || eqb number 154

abbrev pub as_formerly : Told → Told
as_formerly w = elim (of_pairs w.number) [ true ↦ refused 5 (get_or w.values 0 0 / 2) | false ↦ w ]

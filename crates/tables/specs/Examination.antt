-- The examination of the tables: numbers 2, 3, 4, 51 to 54, 6 and 7, each with its cause. (Document 01, 'Numbers given back'; document 02, No. 1.)
use Rattle.std.specs.Prelude.{◌≡◌, Bool, false, not, ◌&&◌, ◌||◌, List, [], ◌∷◌, ℕ, zero, suc, ◌+◌, ◌*◌, ◌%◌, ◌^◌, ltb, leb, eqb, length, get_or}
use Rattle.problem.specs.Lowest.{lowest}
use Rattle.problem.specs.Tables.{Tables, boats, size, listed, lower, higher, start}
use Rattle.problem.specs.Replies.{Told, told}
use Rattle.tables.specs.Tests.{Fault, fault, first_fault, Test, once, each, each_way, first_of}

-- 2: more than 64 boats
abbrev pub too_many_boats : Tables → Bool
too_many_boats t = ltb 64 (boats t)

-- 3: a size 0 or above 64
abbrev pub is_bad_size : List ℕ → ℕ → Bool
is_bad_size sizes i = eqb (size sizes i) 0 || ltb 64 (size sizes i)

-- 4: pair bytes odd in number or above 4,032
abbrev pub bad_pair_bytes : List ℕ → Bool
bad_pair_bytes pairs = eqb (length pairs % 2) 1 || ltb 4032 (length pairs)

-- 51: a boat that does not exist
abbrev pub names_no_boat : (n byte : ℕ) → Bool
names_no_boat n byte = leb n byte

-- 52: both boats the same
abbrev pub same_boat : List ℕ → ℕ → Bool
same_boat pairs k = eqb (lower pairs k) (higher pairs k)

-- 53: the higher boat first
abbrev pub higher_first : List ℕ → ℕ → Bool
higher_first pairs k = ltb (higher pairs k) (lower pairs k)

-- 54: a pair equal to or below the one before: by the lower boat, then by the higher
abbrev pub equal_or_below : List ℕ → (k before : ℕ) → Bool
equal_or_below pairs k before =
    ltb (lower pairs k) (lower pairs before)
    || (eqb (lower pairs k) (lower pairs before) && leb (higher pairs k) (higher pairs before))

abbrev pub not_rising : List ℕ → ℕ → Bool
not_rising pairs zero = false
not_rising pairs (suc k) = equal_or_below pairs (suc k) k

-- 51 to 54: the ways in which pair k may be bad, in their order, each with the byte where the fault stands
abbrev pub ways_bad : (n : ℕ) → List ℕ → ℕ → List Fault
ways_bad n pairs k =
    fault 51 (2 * k) (names_no_boat n (lower pairs k))
    ∷ fault 51 (2 * k + 1) (names_no_boat n (higher pairs k))
    ∷ fault 52 (2 * k + 1) (same_boat pairs k)
    ∷ fault 53 (2 * k) (higher_first pairs k)
    ∷ fault 54 (2 * k) (not_rising pairs k)
    ∷ []

-- the first of them that applies
unfoldable pub first_way_bad : (n : ℕ) → List ℕ → ℕ → Fault
first_way_bad n pairs k = first_fault (ways_bad n pairs k)

-- 6: row words are not the sum of the lower boats' sizes over the pairs
abbrev pub bad_row_words : Tables → Bool
bad_row_words t = not (eqb (length t.rows) (start t.sizes t.pairs (listed t.pairs)))

-- 7: a row bit at or above the higher boat's size. Word w is a row of the lowest pair whose rows end after it
unfoldable pub pair_of_word : List ℕ → List ℕ → ℕ → ℕ
pair_of_word sizes pairs w = lowest (listed pairs) (λ k. ltb w (start sizes pairs (suc k)))

unfoldable pub bad_word : Tables → ℕ → Bool
bad_word t w = leb (2 ^ size t.sizes (higher t.pairs (pair_of_word t.sizes t.pairs w))) (get_or t.rows w 0)

-- the tests, in their order
abbrev pub tests : Tables → List Test
tests t =
    once 2 (too_many_boats t)
    ∷ each 3 (boats t) (is_bad_size t.sizes)
    ∷ once 4 (bad_pair_bytes t.pairs)
    ∷ each_way (listed t.pairs) (first_way_bad (boats t) t.pairs)
    ∷ once 6 (bad_row_words t)
    ∷ each 7 (length t.rows) (bad_word t)
    ∷ []

-- where none applies: number 0, with the numbers of boats, of listed pairs and of row words
abbrev pub fine_told : Tables → Told
fine_told t = told 0 (boats t ∷ listed t.pairs ∷ length t.rows ∷ [])

-- what the examination says
unfoldable pub examination : Tables → Told
examination t = first_of (tests t) (fine_told t)

-- it says fine
abbrev pub Fine : Tables → Type 0
Fine t = (examination t).number ≡ 0

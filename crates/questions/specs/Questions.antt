-- The questions about a given plan and about a pair's rows. (Document 01, 'Numbers given back'.)
use Rattle.std.specs.Prelude.{◌≡◌, Bool, true, false, not, ◌&&◌, List, [], ◌∷◌, ◌++◌, ℕ, suc, ◌-◌, ◌<◌, ltb, leb, eqb, length, take, drop, Option, Some, None}
use Rattle.std.specs.declared.ops.Range.{Range}
use Rattle.problem.specs.Lowest.{lowest}
use Rattle.problem.specs.Tables.{Tables, boats, size, listed, place, is_listed, start}
use Rattle.problem.specs.Plans.{slot, keeps}
use Rattle.problem.specs.Replies.{Told, told}
use Rattle.tables.specs.Tests.{Test, once, each, first_of}
use Rattle.tables.specs.Examination.{tests, examination}

-- 10: a given plan's length is not n; 11: its slot not below the boat's size
abbrev pub bad_slot : List ℕ → List ℕ → ℕ → Bool
bad_slot sizes given i = leb (size sizes i) (slot given i)

abbrev pub given_tests : Tables → List ℕ → List Test
given_tests t given =
    tests t
    ++ (once 10 (not (eqb (length given) (boats t)))
    ∷ each 11 (boats t) (bad_slot t.sizes given)
    ∷ [])

-- the lowest listed pair that the plan does not keep; `listed` where it keeps all
unfoldable pub broken : Tables → List ℕ → ℕ
broken t given = lowest (listed t.pairs) (λ k. not (keeps t given k))

-- an answer says whether there is one, and which
abbrev pub IsBroken : Option ℕ → Tables → List ℕ → Type 0
IsBroken (Some k) t given = (k < listed t.pairs) × (k ≡ broken t given)
IsBroken None t given = broken t given ≡ listed t.pairs

abbrev pub some_broken : Tables → List ℕ → Bool
some_broken t given = ltb (broken t given) (listed t.pairs)

-- is the plan lawful? 0: yes; 1: no
abbrev pub yes_or_no : (no : Bool) → Told
yes_or_no true = told 1 []
yes_or_no false = told 0 []

unfoldable pub lawful_question : Tables → List ℕ → Told
lawful_question t given = first_of (given_tests t given) (yes_or_no (some_broken t given))

-- which pair is broken? 0: none; 1: the pair at this place, the lowest
abbrev pub pair_or_none : (some : Bool) → ℕ → Told
pair_or_none true k = told 1 (k ∷ [])
pair_or_none false k = told 0 []

unfoldable pub broken_question : Tables → List ℕ → Told
broken_question t given = first_of (given_tests t given) (pair_or_none (some_broken t given) (broken t given))

-- which part of the row words is shown for the boats h and i: the rows of their pair, and the empty part at the start
-- where the tables are refused or the pair is not listed
abbrev pub part_or_none : (shown : Bool) → (from to : ℕ) → Range ℕ
part_or_none true from to = record { start = from; end = to }
part_or_none false from to = record { start = 0; end = 0 }

unfoldable pub rows_shown : Tables → (h i : ℕ) → Range ℕ
rows_shown t h i =
    part_or_none (eqb (examination t).number 0 && is_listed t.pairs h i)
    (start t.sizes t.pairs (place t.pairs h i))
    (start t.sizes t.pairs (suc (place t.pairs h i)))

-- the words shown
abbrev pub shown_rows : Tables → (h i : ℕ) → List ℕ
shown_rows t h i = take ((rows_shown t h i).end - (rows_shown t h i).start) (drop (rows_shown t h i).start t.rows)

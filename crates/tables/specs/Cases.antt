-- Bad pairs of four boats with one slot each, and what No. 1 of document 02 says of them. (What the definitions say is computed in proofs/Cases.antt.)
-- No row is there, so that number 6 applies too, but where the first boat of the only pair does not exist.
use Rattle.std.specs.Prelude.{List, [], ◌∷◌, ℕ}
use Rattle.problem.specs.Lowest.{lowest_from, lowest, sum}
use Rattle.problem.specs.Tables.{tables, start}
use Rattle.problem.specs.Replies.{Told}
use Rattle.tables.specs.Tests.{first_of}
use Rattle.tables.specs.Examination.{first_way_bad, examination}

-- listed pairs, and the number and byte that are said
pub record Case : Type 0 where
  pub pairs : List ℕ
  pub number : ℕ
  pub byte : ℕ

abbrev pub case : (number byte : ℕ) → List ℕ → Case
case number byte pairs = record { pairs = pairs; number = number; byte = byte }

-- what the definitions say
unfoldable pub said_of : Case → Told
unfolding examination first_way_bad first_of lowest_from lowest sum start
said_of c = examination (tables (1 ∷ 1 ∷ 1 ∷ 1 ∷ []) c.pairs [])

unfoldable pub bad_pairs : List Case
bad_pairs =
    -- 51: the first byte that names no boat
    case 51 0 (9 ∷ 0 ∷ [])
    ∷ case 51 1 (0 ∷ 9 ∷ [])
    ∷ case 51 0 (9 ∷ 9 ∷ [])
    ∷ case 51 0 (4 ∷ 0 ∷ [])
    ∷ case 51 1 (0 ∷ 4 ∷ [])
    ∷ case 51 2 (0 ∷ 1 ∷ 9 ∷ 9 ∷ [])
    ∷ case 51 3 (0 ∷ 1 ∷ 0 ∷ 9 ∷ [])
    ∷ case 51 3 (1 ∷ 2 ∷ 0 ∷ 9 ∷ [])
    -- 52: the second
    ∷ case 52 1 (1 ∷ 1 ∷ [])
    ∷ case 52 3 (0 ∷ 1 ∷ 1 ∷ 1 ∷ [])
    ∷ case 52 3 (1 ∷ 2 ∷ 0 ∷ 0 ∷ [])
    -- 53 and 54: the first of the pair
    ∷ case 53 0 (1 ∷ 0 ∷ [])
    ∷ case 53 2 (0 ∷ 1 ∷ 2 ∷ 1 ∷ [])
    ∷ case 53 2 (1 ∷ 2 ∷ 1 ∷ 0 ∷ [])
    ∷ case 54 2 (0 ∷ 1 ∷ 0 ∷ 1 ∷ [])
    ∷ case 54 2 (0 ∷ 2 ∷ 0 ∷ 1 ∷ [])
    ∷ case 54 2 (1 ∷ 2 ∷ 0 ∷ 2 ∷ [])
    ∷ case 54 2 (1 ∷ 2 ∷ 0 ∷ 3 ∷ [])
    ∷ case 54 6 (0 ∷ 1 ∷ 0 ∷ 2 ∷ 1 ∷ 2 ∷ 1 ∷ 2 ∷ [])
    -- the lowest pair, whatever is wrong with a later one
    ∷ case 53 0 (1 ∷ 0 ∷ 9 ∷ 9 ∷ [])
    ∷ case 54 4 (0 ∷ 1 ∷ 1 ∷ 2 ∷ 0 ∷ 2 ∷ 9 ∷ 9 ∷ [])
    ∷ []

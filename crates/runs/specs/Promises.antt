-- What the theorems on `run` speak of, beside `run_result`. (They are in proofs/Theorems.antt.)
use Rattle.std.specs.Prelude.{◌≡◌, ◌⊎◌, List, [], ℕ, ◌<◌, length, take, drop}
use Rattle.problem.specs.Tables.{Tables, boats}
use Rattle.problem.specs.Replies.{Told, told}
use Rattle.words.specs.Layout.{word}
use Rattle.runs.specs.Runs.{Result}

-- solved, no plan, undecided by checks, undecided by trials
abbrev pub OneOfFour : Told → Type 0
OneOfFour answer = (answer ≡ told 0 []) ⊎ (answer ≡ told 1 []) ⊎ (answer ≡ told 2 []) ⊎ (answer ≡ told 3 [])

-- a run's own memory after it: solved has written the first n plan bytes and nothing else there, any other answer nothing; the first 8,192 words are 0,
-- and the later ones as they were
pub record Leaves (t : Tables) (plan work : List ℕ) (r : Result) : Type 0 where
  pub not_solved : 0 < r.answer.number → r.plan ≡ plan
  pub later_bytes : drop (boats t) r.plan ≡ drop (boats t) plan
  pub plan_bytes : length r.plan ≡ length plan
  pub zero_words : (k : ℕ) → k < 8192 → word r.work k ≡ 0
  pub later_words : drop 8192 r.work ≡ drop 8192 work
  pub work_words : length r.work ≡ length work

-- two runs on the same tables, each in memory of its own, that decide alike: the same answer, and the same n bytes where it is solved
pub record Alike (t : Tables) (plan work : List ℕ) (r : Result) (plan' work' : List ℕ) (r' : Result) : Type 0 where
  pub same_answer : r'.answer ≡ r.answer
  pub same_bytes : r.answer ≡ told 0 [] → take (boats t) r'.plan ≡ take (boats t) r.plan
  pub leaves : Leaves t plan work r
  pub leaves' : Leaves t plan' work' r'

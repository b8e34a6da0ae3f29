-- THE PROMISE OF `run`: for every input the whole reply, every byte of the plan memory and every working word.
-- (Document 01, 'Numbers given back' and 'Counting'.)
use Rattle.std.specs.Prelude.{Bool, true, false, ◌||◌, List, [], ◌∷◌, ◌++◌, ℕ, ltb, eqb, length, drop, Option, Some, None}
use Rattle.problem.specs.Tables.{Tables, boats}
use Rattle.problem.specs.Methods.{method_numbered}
use Rattle.problem.specs.Replies.{Told, told, refused, answer_told}
use Rattle.problem.specs.declared.Allowance.TheVariants.{Checks, Trials}
use Rattle.problem.specs.declared.Method.{Method}
use Rattle.problem.specs.declared.Reply.{Reply}
use Rattle.tables.specs.Tests.{Test, once, first_of}
use Rattle.tables.specs.Examination.{tests}
use Rattle.events.specs.Events.{solved, no_plan, astray}
use Rattle.events.specs.Allowances.{Decision, decided, undecided, Outcome, cut}
use Rattle.methods.specs.Methods.{search_by}
use Rattle.words.specs.Layout.{zeroed}

-- ---- what is refused: 1, then the examination's, then 8 and 9
abbrev pub not_one_to_five : ℕ → Bool
not_one_to_five method = eqb method 0 || ltb 5 method

-- the lent memory
abbrev pub lent_tests : Tables → (plan_bytes work_words : ℕ) → List Test
lent_tests t plan_bytes work_words = once 8 (ltb plan_bytes (boats t)) ∷ once 9 (ltb work_words 8192) ∷ []

abbrev pub run_tests : (method : ℕ) → Tables → (plan_bytes work_words : ℕ) → List Test
run_tests method t plan_bytes work_words = once 1 (not_one_to_five method) ∷ (tests t ++ lent_tests t plan_bytes work_words)

-- the refusal; number 0 where nothing is refused
unfoldable pub refusal_of_run : (method : ℕ) → Tables → (plan_bytes work_words : ℕ) → Told
refusal_of_run method t plan_bytes work_words = first_of (run_tests method t plan_bytes work_words) (told 0 [])

-- ---- what a run leaves: its reply on paper, and the lent memory
pub record Result : Type 0 where
  pub answer : Told
  pub checks : ℕ
  pub trials : ℕ
  pub plan : List ℕ
  pub work : List ℕ

-- a refusal has counts 0 and changes nothing
abbrev pub refused_result : Told → (plan work : List ℕ) → Result
refused_result why plan work = record { answer = why; checks = 0; trials = 0; plan = plan; work = work }

-- the four answers; a search that goes astray, which none does, would be told by a number that no answer has
abbrev pub decision_told : Decision → Told
decision_told (decided (solved plan)) = told 0 []
decision_told (decided no_plan) = told 1 []
decision_told (decided astray) = told 99 []
decision_told (undecided Checks) = told 2 []
decision_told (undecided Trials) = told 3 []

-- what is written to the plan memory
abbrev pub written : Decision → List ℕ
written (decided (solved plan)) = plan
written (decided no_plan) = []
written (decided astray) = []
written (undecided which) = []

-- a run that is not refused: solved writes the plan's bytes and nothing else there; the first 8,192 words end as 0
abbrev pub finished_result : Outcome → (plan work : List ℕ) → Result
finished_result o plan work =
    record {
      answer = decision_told o.decision;
      checks = o.checks;
      trials = o.trials;
      plan = written o.decision ++ drop (length (written o.decision)) plan;
      work = zeroed 8192 work;
    }

-- the method's search, cut by the allowances. (No number but the five is a method: number 1 has refused it)
abbrev pub finished_by : Option Method → Tables → (plan work : List ℕ) → (checks trials : ℕ) → Result
finished_by (Some chosen) t plan work checks trials = finished_result (cut checks trials (search_by chosen t)) plan work
finished_by None t plan work checks trials = refused_result (refused 1 0) plan work

abbrev pub unless_refused : (fine : Bool) → (finished refusal : Result) → Result
unless_refused true finished refusal = finished
unless_refused false finished refusal = refusal

unfoldable pub run_result : (method : ℕ) → Tables → (plan work : List ℕ) → (checks trials : ℕ) → Result
run_result method t plan work checks trials =
    unless_refused (eqb (refusal_of_run method t (length plan) (length work)).number 0)
    (finished_by (method_numbered method) t plan work checks trials)
    (refused_result (refusal_of_run method t (length plan) (length work)) plan work)

-- a reply and the memory that it leaves, on paper
abbrev pub result_of : Reply → (plan work : List ℕ) → Result
result_of r plan work = record { answer = answer_told r.answer; checks = r.checks; trials = r.trials; plan = plan; work = work }

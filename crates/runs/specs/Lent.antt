-- What is left of a run once its method is known and its tables are fine.
use Rattle.std.specs.Prelude.{List, [], ℕ, eqb, length}
use Rattle.problem.specs.Tables.{Tables}
use Rattle.problem.specs.Replies.{Told, told}
use Rattle.problem.specs.declared.Method.{Method}
use Rattle.tables.specs.Tests.{first_of}
use Rattle.events.specs.Allowances.{cut}
use Rattle.methods.specs.Methods.{search_by}
use Rattle.runs.specs.Runs.{lent_tests, Result, refused_result, finished_result, unless_refused}

-- the refusal of the lent memory; number 0 where it is enough
unfoldable pub lent_refusal : Tables → (plan_bytes work_words : ℕ) → Told
lent_refusal t plan_bytes work_words = first_of (lent_tests t plan_bytes work_words) (told 0 [])

unfoldable pub lent_result : Method → Tables → (plan work : List ℕ) → (checks trials : ℕ) → Result
lent_result method t plan work checks trials =
    unless_refused (eqb (lent_refusal t (length plan) (length work)).number 0)
    (finished_result (cut checks trials (search_by method t)) plan work)
    (refused_result (lent_refusal t (length plan) (length work)) plan work)

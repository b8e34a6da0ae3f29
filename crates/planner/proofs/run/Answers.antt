-- The refusals in their order; what is left goes to `run_fine`.
use Rattle.std.proofs.Common.{◌≡◌, sym, ap, ◌∙◌, length, arith}
use Rattle.std.specs.Prelude.{Result, Some}
use Rattle.problem.specs.Tables.{Tables, tables}
use Rattle.problem.specs.Methods.{method_numbered}
use Rattle.problem.specs.declared.Problem.{Problem}
use Rattle.problem.specs.declared.Refusal.{Refusal}
use Rattle.problem.specs.declared.Reply.{Reply}
use Rattle.tables.specs.Examination.{Fine}
use Rattle.tables.specs.Replies.{examined_told}
use Rattle.runs.specs.Runs.{result_of}
use Rattle.runs.proofs.Refusing.{says_1, says_examined, result_refused, result_lent}
use Rattle.planner.proofs.Numbered.{known, missing}
use Rattle.planner.proofs.run.Goals as goal

pub returns-in_default : goal.returns-in_default
returns-in_default c =
    let a = c.args in
    let T : Tables = tables a.sizes.now a.pairs.now a.rows.now in
    ap (λ (y : Reply). result_of y a.plan.now a.work.now) c.from.ensures
    ∙ sym (result_refused a.method T a.plan.now a.work.now a.checks a.trials
    (says_1 a.method T (length a.plan.now) (length a.work.now) (missing (method_numbered a.method) c.try_from.ensures c.in_default.not-Ok)) (omega arith))

pub run_fine-requires : goal.run_fine-requires
run_fine-requires c = sym (ap (λ w. w.number) c.examine.ensures) ∙ ap (λ (x : Result Problem Refusal). (examined_told x).number) c.in_default-examine.is

pub returns-in_default-examine : goal.returns-in_default-examine
returns-in_default-examine c =
    let a = c.args in
    let T : Tables = tables a.sizes.now a.pairs.now a.rows.now in
    let fine : Fine T =
    sym (ap (λ w. w.number) c.examine.ensures) ∙ ap (λ (x : Result Problem Refusal). (examined_told x).number) c.in_default-examine.is in
    c.run_fine.ensures
    ∙ result_lent a.method T a.plan.now a.work.now a.checks a.trials c.in-Ok.chosen (known (method_numbered a.method) (sym c.in-Ok.is ∙ c.try_from.ensures)) fine

pub returns : goal.returns
returns c =
    let a = c.args in
    let T : Tables = tables a.sizes.now a.pairs.now a.rows.now in
    let k : method_numbered a.method ≡ Some c.in-Ok.chosen = known (method_numbered a.method) (sym c.in-Ok.is ∙ c.try_from.ensures) in
    ap (λ (y : Reply). result_of y a.plan.now a.work.now) c.from-2.ensures
    ∙ sym (result_refused a.method T a.plan.now a.work.now a.checks a.trials
    (says_examined a.method T (length a.plan.now) (length a.work.now) c.in-Ok.chosen k (ap examined_told (sym c.in-Err.is) ∙ c.examine.ensures) (omega arith)) (omega arith))

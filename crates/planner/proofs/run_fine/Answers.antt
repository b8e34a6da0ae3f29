-- The lent memory is tested; then the search is made, the plan written and the words cleared.
use Rattle.std.proofs.Common.{◌≡◌, sym, ap, ◌∙◌, subst, ℕ, ◌≤◌, ◌<◌, false, length, arith}
use borrow.Author.Tests.{ltb-false}
use lib.Dec.{ltb}
use Rattle.problem.specs.Tables.{Tables, tables, boats}
use Rattle.problem.specs.declared.Reply.{Reply}
use Rattle.events.specs.declared.Counts.{Counts}
use Rattle.events.specs.Counts.{Fits}
use Rattle.words.specs.Layout.{word}
use Rattle.ends.specs.declared.Ended.TheVariants.{Solved}
use Rattle.walk.proofs.Cut.{solved_placed}
use Rattle.runs.specs.Runs.{result_of}
use Rattle.runs.proofs.Refusing.{lent_8, lent_9, lent_enough, lent_refused, lent_finished}
use Rattle.planner.proofs.Finished.{finished}
use Rattle.planner.proofs.run_fine.Goals as goal

pub returns-then-plan-n : goal.returns-then-plan-n
returns-then-plan-n c =
    let a = c.args in
    let T : Tables = tables a.sizes.now a.pairs.now a.rows.now in
    let few : length a.plan.now < boats T = rw c.fine-tables.ensures at (rw c.boats-n.ensures.value at c.if-plan-n.true) in
    ap (λ (y : Reply). result_of y a.plan.now a.work.now) c.from.ensures
    ∙ sym (lent_refused a.method T a.plan.now a.work.now a.checks a.trials (lent_8 T (length a.plan.now) (length a.work.now) few) (omega arith))

pub returns-then-short_work : goal.returns-then-short_work
returns-then-short_work c =
    let a = c.args in
    let T : Tables = tables a.sizes.now a.pairs.now a.rows.now in
    let fits : boats T ≤ length a.plan.now = rw c.fine-tables.ensures at (rw c.boats-n.ensures.value at c.if-plan-n.false) in
    ap (λ (y : Reply). result_of y a.plan.now a.work.now) c.from-then-short_work.ensures
    ∙ sym (lent_refused a.method T a.plan.now a.work.now a.checks a.trials
    (lent_9 T (length a.plan.now) (length a.work.now) fits (sym c.short_work.ensures ∙ c.if-short_work.true)) (omega arith))

pub searched-ended-requires : goal.searched-ended-requires
searched-ended-requires c =
    let enough : ltb (length c.args.work.now) 8192 ≡ false = sym c.short_work.ensures ∙ c.if-short_work.false in
    record { used_in_bounds = ltb-false _ _ enough; fits = subst Fits (sym c.new.ensures) (record { checks_fit = omega arith; trials_fit = omega arith }) }

pub write_plan-requires : goal.write_plan-requires
write_plan-requires c =
    let enough : ltb (length c.args.work.now) 8192 ≡ false = sym c.short_work.ensures ∙ c.if-short_work.false in
    let found = c.searched-ended.ensures in
    let b = c.boats-n.ensures in
    let x = c.fine-tables.result in
    let left = c.searched-ended.new.work in
    let small : (k : Counts) → c.searched-ended.result ≡ Solved k → (i : ℕ) → i < boats x → word left i < 256 =
    λ k e i l. omega (arith, solved_placed found k e i l, b.sane.few_slots i l) in
    record {
      n_in_bounds = (omega (arith, b.value, found.only.long, ltb-false _ _ enough, b.sane.few_boats), c.if-plan-n.false);
      k_bound = λ k e i l. small k e i (rw b.value at l);
    }

pub returns : goal.returns
returns c =
    let a = c.args in
    let T : Tables = tables a.sizes.now a.pairs.now a.rows.now in
    let same = c.fine-tables.ensures in
    let x = c.fine-tables.result in
    let b = c.boats-n.ensures in
    let enough : ltb (length a.work.now) 8192 ≡ false = sym c.short_work.ensures ∙ c.if-short_work.false in
    let found = c.searched-ended.ensures in
    let fits : boats T ≤ length a.plan.now = rw same at (rw b.value at c.if-plan-n.false) in
    let room : boats x ≤ length c.searched-ended.new.work = omega (arith, found.only.long, ltb-false _ _ enough, b.sane.few_boats) in
    rw same at
    (finished a.method x a.checks a.trials c.searched-ended.result _ a.plan.now c.write_plan.new.plan a.work.now c.searched-ended.new.work _
    c.from-2.ensures c.new.ensures room found (rw b.value at c.write_plan.ensures) c.clear.ensures)
    ∙ sym (lent_finished a.method T a.plan.now a.work.now a.checks a.trials (lent_enough T (length a.plan.now) (length a.work.now) fits enough))

-- What each label and each unlabel says leads the search one step on its way, or ends it.
use Rattle.std.proofs.Common.{◌≡◌, ◌<◌, subst, ℕ, arith, add-one}
use lib.ListN.{take}
use Rattle.problem.specs.Tables.{boats}
use Rattle.problem.specs.declared.Allowance.TheVariants.{Checks, Trials}
use Rattle.words.specs.Layout.{Placed}
use Rattle.words.proofs.ChangedOnly.{only_trans}
use Rattle.moves.specs.Memory.{memory}
use Rattle.walk.specs.Walks.{Arrives}
use Rattle.walk.proofs.Underway.{begins, forward, forward_less, halted, no_plan_lem, given_up_lem, backward, backward_less, placed_of}
use Rattle.walk.proofs.walk.Given.{Over}
use Rattle.walk.proofs.walk.Goals as goal
use Rattle.walk.proofs.walk.Goals.{In-loop-i}

onboard : (g : Over) (c : In-loop-i g) → c.loop-i.i < boats c.args.tables.now
onboard g c = rw (← c.boats-n.ensures.value) c.loop-i-test.true

pub loop-i-init : goal.loop-i-init
loop-i-init g c = let a = c.args in begins g.M.Moving.moves _ a.work.now a.boat a.from a.start c.requires.setting

pub loop-i-smaller-in-Passed : goal.loop-i-smaller-in-Passed
loop-i-smaller-in-Passed g c =
    let s = c.requires.setting in
    let on = onboard g (goal.at.loop-i-smaller-in-Passed g c).In-loop-i in
    rw add-one (forward_less _ _ c.boats-n.ensures.sane _ _ _ _ _ s.room _ _ _ _ c.loop-i.invariant on _ _ c.in-Passed.ensures)

pub loop-i-preserved-in-Passed : goal.loop-i-preserved-in-Passed
loop-i-preserved-in-Passed g c =
    let s = c.requires.setting in
    let on = onboard g (goal.at.loop-i-preserved-in-Passed g c).In-loop-i in
    rw add-one (forward _ _ c.boats-n.ensures.sane _ _ _ _ _ s.room _ _ _ _ c.loop-i.invariant on _ _ c.in-Passed.ensures)

pub overflow_add-slot : goal.overflow_add-slot
overflow_add-slot g c =
    let s = c.requires.setting in
    let on = onboard g (goal.at.overflow_add-slot g c).In-loop-i in
    omega (
      arith,
      given_up_lem _ _ c.boats-n.ensures.sane _ _ _ _ _ s.room _ _ _ _ c.loop-i.invariant on _ _ c.in-Spent.ensures _ _ c.in-Some.ensures,
    )

pub loop-i-smaller : goal.loop-i-smaller
loop-i-smaller g c =
    let s = c.requires.setting in
    let on = onboard g (goal.at.loop-i-smaller g c).In-loop-i in
    rw add-one (backward_less _ _ c.boats-n.ensures.sane _ _ _ _ _ s.room _ _ _ _ c.loop-i.invariant on _ _ c.in-Spent.ensures _ _ c.in-Some.ensures)

pub loop-i-preserved : goal.loop-i-preserved
loop-i-preserved g c =
    let s = c.requires.setting in
    let on = onboard g (goal.at.loop-i-preserved g c).In-loop-i in
    rw add-one (backward _ _ c.boats-n.ensures.sane _ _ _ _ _ s.room _ _ _ _ c.loop-i.invariant on _ _ c.in-Spent.ensures _ _ c.in-Some.ensures)

pub returns-in_default : goal.returns-in_default
returns-in_default g c =
    let s = c.requires.setting in
    let on = onboard g (goal.at.returns-in_default g c).In-loop-i in
    let none = c.in-Spent.ensures in
    record {
      only = only_trans c.loop-i.invariant.only (only_trans none.only c.in_default.ensures.only);
      ends = no_plan_lem _ _ c.boats-n.ensures.sane _ _ _ _ _ s.room _ _ _ _ c.loop-i.invariant on _ _ none c.in_default.ensures.goes;
    }

pub returns-in-OutOfChecks : goal.returns-in-OutOfChecks
returns-in-OutOfChecks g c =
    let s = c.requires.setting in
    let a = c.in-OutOfChecks in
    let on = onboard g (goal.at.returns-in-OutOfChecks g c).In-loop-i in
    rw (c.stopped.ensures.value, c.stopped.ensures.work_after)
    (halted _ _ c.boats-n.ensures.sane _ _ _ _ _ s.room _ _ _ _ c.loop-i.invariant on _ Checks a.at a.made a.k a.ensures)

pub returns-in-OutOfTrials : goal.returns-in-OutOfTrials
returns-in-OutOfTrials g c =
    let s = c.requires.setting in
    let a = c.in-OutOfTrials in
    let on = onboard g (goal.at.returns-in-OutOfTrials g c).In-loop-i in
    rw (c.stopped-in-OutOfTrials.ensures.value, c.stopped-in-OutOfTrials.ensures.work_after)
    (halted _ _ c.boats-n.ensures.sane _ _ _ _ _ s.room _ _ _ _ c.loop-i.invariant on _ Trials a.at 0 a.k a.ensures)

-- all boats are placed
pub returns : goal.returns
returns g c =
    let l = c.loop-i in
    let a = c.args in
    let w = a.work.now in
    let all : l.i ≡ boats c.args.tables.now = omega (arith, l.invariant.boat, c.loop-i-test.false, c.boats-n.ensures.value) in
    record {
      only = l.invariant.only;
      ends = record {
        choice = l.slot;
        remembered = memory g.M.Moving.moves l.work l.i;
        arrives = subst (λ (i : ℕ). Arrives g.M.Moving.moves c.args.tables.now (take a.boat w) a.from (memory g.M.Moving.moves w a.boat) a.start (take i l.work) l.slot (memory g.M.Moving.moves l.work l.i) l.counts) all
            l.invariant.arrives;
        placed = subst (λ (i : ℕ). Placed c.args.tables.now l.work i) all (placed_of g.M.Moving.moves c.args.tables.now _ _ l.invariant.kept);
      };
    }

use Rattle.std.proofs.Common.{sym, rules, arith, ◌+◌, ◌^◌, ◌<◌}
use Rattle.words.specs.Layout.{word}
use Rattle.sweeping.proofs.Along.{row_few, begins, ends}
use Rattle.sweeping.proofs.Turns.{Turn, runs_out_lem, empties, goes_on_lem}
use Rattle.sweeping.proofs.sweep.Goals as goal
use Rattle.sweeping.proofs.sweep.Goals.{In-loop-pair}

-- AT A PAIR
turn : (d : In-loop-pair) →
    let l = d.loop-pair in
    word l.work (word l.work (512 + l.pair)) < 2 ^ 64 → Turn d.args.tables.now d.args.work.now d.args.i d.args.slot d.args.start l.work l.pair l.at l.counts
turn d fits =
    record { given = d.requires.sweepable; along = d.loop-pair.invariant; more = rw d.requires.owns.last at d.loop-pair-test.true; fits = fits }

-- ANSWERS
pub overflow_add-at : goal.overflow_add-at
overflow_add-at c = omega (arith, row_few c.requires.sweepable c.requires.owns)

pub loop-pair-init : goal.loop-pair-init
loop-pair-init c = begins c.requires.sweepable c.requires.owns c.args.start c.requires.fits

pub returns-in_default-clause-sweeps_to : goal.returns-in_default-clause-sweeps_to
returns-in_default-clause-sweeps_to c =
    let u = turn (goal.at.returns-in_default-clause-sweeps_to c).In-loop-pair (search rules) in
    rw c.all_checks.ensures (runs_out_lem u (sym c.in_default.ensures))

pub returns-then-stays-eq0-clause-sweeps_to : goal.returns-then-stays-eq0-clause-sweeps_to
returns-then-stays-eq0-clause-sweeps_to c =
    let u = turn (goal.at.returns-then-stays-eq0-clause-sweeps_to c).In-loop-pair (search rules) in
    empties u c.in-Some.k (sym c.in-Some.ensures) c.row_words-rows.ensures c.if-stays-eq0.true

pub loop-pair-preserved : goal.loop-pair-preserved
loop-pair-preserved c =
    let u = turn (goal.at.loop-pair-preserved c).In-loop-pair (search rules) in
    goes_on_lem u c.in-Some.k (sym c.in-Some.ensures) c.row_words-rows.ensures c.args.own.size c.requires.owns.slots c.if-stays-eq0.false

pub returns-clause-sweeps_to : goal.returns-clause-sweeps_to
returns-clause-sweeps_to c = ends c.requires.sweepable c.loop-pair.invariant (rw c.requires.owns.last at c.loop-pair-test.false)

use Rattle.std.proofs.Common.{sym, subst, arith, ℕ, ◌+◌, ◌^◌, ◌<◌}
use lib.Bits.{or_lt}
use Rattle.words.proofs.ChangedOnly.{only_refl}
use Rattle.visits.proofs.Ends.{come_here}
use Rattle.looking_ahead.proofs.Ahead.{ready_there, among, Comes, on_to, none_due, TriedAt, tried, no_trial, trial_made, sweepable_lem, AfterSweep, kept_after, swept_clear, clear_lives, swept_out, out_few, emptied_steps, emptied_jumps, long_after, before_small}
use Rattle.looking_ahead.proofs.visit.Goals as goal
use Rattle.looking_ahead.proofs.visit.Goals.{In-loop-slot, After-sweep, in-OneBack, in-BySets}

-- AT A SLOT
turn : (c : In-loop-slot) →
    let a = c.args in
    let l = c.loop-slot in
    TriedAt a.tables.now a.work.now a.i a.backward a.from a.with a.start l.work l.slot l.set l.counts
turn c = tried (ready_there c.requires.standing c.requires.kept_ahead) (omega (arith, c.loop-slot-test.true, rw c.size_bytes-sizes.ensures at c.own_pairs-own.ensures.slots)) c.loop-slot.invariant

-- AFTER A SWEEP
swept : (c : After-sweep) →
    let a = c.args in
    let l = c.loop-slot in
    AfterSweep a.tables.now a.work.now a.i a.backward a.from a.with a.start l.slot l.set l.counts c.in-Some.k l.work c.sweep.new.work c.sweep.result
swept c =
    let d = tried (ready_there c.requires.standing c.requires.kept_ahead) (omega (arith, c.loop-slot-test.true, rw c.size_bytes-sizes.ensures at c.own_pairs-own.ensures.slots)) c.loop-slot.invariant in
    record { tried = d; counted = trial_made d (sym c.in-Some.ensures); sweeps = c.sweep.ensures.sweeps_to; only = c.sweep.ensures.changed_only }

-- ANSWERS
pub offset_bounds-work-work : goal.offset_bounds-work-work
offset_bounds-work-work c = omega (arith, among (ready_there c.requires.standing c.requires.kept_ahead))

pub bounds-work-work : goal.bounds-work-work
bounds-work-work c = omega (arith, among (ready_there c.requires.standing c.requires.kept_ahead), c.requires.standing.room)

pub loop-slot-init : goal.loop-slot-init
loop-slot-init c =
    let a = c.args in
    on_to (ready_there c.requires.standing c.requires.kept_ahead) a.from a.with a.start a.work.now a.from a.with _ (only_refl _ _ _) c.requires.with_bound
    (come_here a.tables.now _ c.requires.standing.fits) c.next_live-slot.ensures

pub returns-in_default-clause-visits : goal.returns-in_default-clause-visits
returns-in_default-clause-visits c =
    let d = turn (goal.at.returns-in_default-clause-visits c).In-loop-slot in
    record { below = c.loop-slot.invariant.below; ends = no_trial d (sym c.in_default.ensures) }

pub sweep-requires : goal.sweep-requires
sweep-requires c =
    let d = turn (goal.at.sweep-requires c).In-loop-slot in
    record { sweepable = sweepable_lem d; owns = rw (c.size_bytes-sizes.ensures, c.pair_bytes-pairs.ensures, c.row_words-rows.ensures) at c.own_pairs-own.ensures; fits = (trial_made d (sym c.in-Some.ensures)).fits }

pub returns-in-Clear : goal.returns-in-Clear
returns-in-Clear c =
    let w = swept (goal.at.returns-in-Clear c).After-sweep in
    record {
      visits = record { below = c.loop-slot.invariant.below; ends = swept_clear w c.in-Clear.is };
      lives_after = clear_lives w c.in-Clear.is;
      changed_only = kept_after w;
    }

pub overflow_add-set : goal.overflow_add-set
overflow_add-set c = omega (arith, before_small (swept (goal.at.overflow_add-set c).After-sweep) c.in-Emptied.is)

pub offset_bounds-work-before : goal.offset_bounds-work-before
offset_bounds-work-before c = omega (arith, before_small (swept (goal.at.offset_bounds-work-before c).After-sweep) c.in-Emptied.is)

pub bounds-work-before : goal.bounds-work-before
bounds-work-before c =
    let w = swept (goal.at.bounds-work-before c).After-sweep in
    omega (arith, before_small w c.in-Emptied.is, long_after w)

pub overflow_add-made : goal.overflow_add-made
overflow_add-made c = omega (arith, out_few (swept (goal.at.overflow_add-made c).After-sweep) c.in-OutOfChecks.is)

pub returns-in-OutOfChecks-clause-visits : goal.returns-in-OutOfChecks-clause-visits
returns-in-OutOfChecks-clause-visits c =
    record {
      below = c.loop-slot.invariant.below;
      ends = swept_out (swept (goal.at.returns-in-OutOfChecks-clause-visits c).After-sweep) c.in-OutOfChecks.is;
    }

-- the next slot is due, before the dead ones are passed over
pub loop-slot-preserved : goal.loop-slot-preserved
loop-slot-preserved c =
    let w = swept (goal.at.loop-slot-preserved c).After-sweep in
    let a = c.args in
    let Due = λ (set : ℕ). (set < 2 ^ a.i) × Comes a.tables.now a.work.now a.i a.backward a.from a.with a.start (c.loop-slot.slot + 1) set c.in-Emptied.k in
    let due : Due c.match-backward.set =
    elim c.match-backward.branch [
      | in-OneBack z ↦ subst Due (sym z.set-is) (c.loop-slot.invariant.below, emptied_steps w c.in-Emptied.is z.in-OneBack.is)
      | in-BySets z ↦
          let d = emptied_jumps w c.in-Emptied.is z.in-BySets.is (λ k. (c.type_inv.work k).fits) in
          subst Due (sym z.set-is) (or_lt a.i _ _ c.loop-slot.invariant.below d.0, d.1)
    ] in
    on_to w.tried.ready a.from a.with a.start c.sweep.new.work (c.loop-slot.slot + 1) _ _ (kept_after w) due.0 due.1 c.next_live-slot-in-loop-slot.ensures

pub returns-clause-visits : goal.returns-clause-visits
returns-clause-visits c =
    let a = c.args in
    record {
      below = c.loop-slot.invariant.below;
      ends = none_due (ready_there c.requires.standing c.requires.kept_ahead) a.from a.with a.start c.loop-slot.slot c.loop-slot.set
          (omega (arith, c.loop-slot-test.false, rw c.size_bytes-sizes.ensures at c.own_pairs-own.ensures.slots)) c.loop-slot.invariant.due;
    }

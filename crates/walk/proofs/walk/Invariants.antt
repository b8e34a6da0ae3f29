-- One loop, which keeps that a search is on its way: whole steps lead from the entry to here.
use lib.ListN.{take}
use Rattle.methods.proofs.StepsLeft.{steps_left_of}
use Rattle.moves.specs.Memory.{memory}
use Rattle.walk.proofs.Underway.{Underway}
use Rattle.walk.proofs.walk.Given as goal

abbrev pub invariant-loop-i : goal.invariant-loop-i
invariant-loop-i g l =
    let w = l.initial.work in
    let moves = g.M.Moving.moves in
    Underway moves l.tables (take l.boat w) l.from (memory moves w l.boat) w l.initial.counts l.work l.i l.slot l.counts

abbrev pub decreases-loop-i : goal.decreases-loop-i
decreases-loop-i g l = steps_left_of l.tables (take l.i l.work) l.slot

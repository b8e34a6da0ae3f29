-- Two loops: that over slots keeps which slots the visit has given up, that over boats which looks of the trial are made.
use Rattle.visits.proofs.Looking.{Looking}
use Rattle.marking.proofs.Visits.{looks_from, Come}
use Rattle.marking.proofs.visit.Given as goal

abbrev pub invariant-loop-h : goal.invariant-loop-h
invariant-loop-h l = Looking l.tables l.work l.i l.slot (looks_from l.tables l.work l.i l.slot l.low) l.initial.counts l.h l.counts

abbrev pub invariant-loop-slot : goal.invariant-loop-slot
invariant-loop-slot l = Come l.tables l.initial.work l.i l.from l.initial.counts l.work l.slot l.counts

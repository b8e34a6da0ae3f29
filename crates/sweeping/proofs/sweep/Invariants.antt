-- Before each pair the boats below the next one are gone over; a turn makes the checks of one listed boat.
use Rattle.sweeping.proofs.Along.{Along}
use Rattle.sweeping.proofs.sweep.Given as goal

abbrev pub invariant-loop-pair : goal.invariant-loop-pair
invariant-loop-pair l = Along l.tables l.initial.work l.i l.slot l.initial.counts l.work l.pair l.at l.counts

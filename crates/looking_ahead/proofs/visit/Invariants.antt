-- Each slot that fails, or is dead, is given up; the words that the boats below left stay as they were.
use Rattle.std.proofs.Common.{◌-◌}
use Rattle.problem.specs.Tables.{tables}
use Rattle.looking_ahead.proofs.Ahead.{Going}
use Rattle.looking_ahead.proofs.visit.Given as goal

abbrev pub invariant-loop-slot : goal.invariant-loop-slot
invariant-loop-slot l = Going l.tables l.initial.work l.i l.backward l.from l.with l.initial.counts l.work l.slot l.set l.counts

abbrev pub decreases-loop-slot : goal.decreases-loop-slot
decreases-loop-slot l = l.size - l.slot

abbrev pub ghost-own_pairs : goal.ghost-own_pairs
ghost-own_pairs a = tables a.sizes.now a.pairs.now a.rows.now

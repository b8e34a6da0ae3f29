-- The words of the boats passed are right.
use Rattle.chains.proofs.Ahead.{AheadTo}
use Rattle.chains.proofs.index_ahead.Given as goal

abbrev pub invariant-loop-i : goal.invariant-loop-i
invariant-loop-i l = AheadTo l.tables l.initial.work l.work l.k l.start l.i

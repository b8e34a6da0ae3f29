-- The index holds the pairs passed.
use Rattle.index.proofs.Back.{BackTo}
use Rattle.index.proofs.index_back.Given as goal

abbrev pub invariant-loop-k : goal.invariant-loop-k
invariant-loop-k l = BackTo l.tables l.initial.work l.work l.start l.k

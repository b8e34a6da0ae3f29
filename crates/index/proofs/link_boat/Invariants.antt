-- The boats passed have their links, and the row's later words are as they were.
use Rattle.index.proofs.Linking.{RowTo}
use Rattle.index.proofs.link_boat.Given as goal

abbrev pub invariant-loop-h : goal.invariant-loop-h
invariant-loop-h l = RowTo l.tables l.initial.work l.work l.i l.from l.to l.h

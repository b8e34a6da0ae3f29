-- The boats passed have their links, and the later ones still their index rows.
use Rattle.index.proofs.Linked.{LinkedTo}
use Rattle.index.proofs.link_back.Given as goal

abbrev pub invariant-loop-i : goal.invariant-loop-i
invariant-loop-i l = LinkedTo l.tables l.initial.work l.work l.at l.i

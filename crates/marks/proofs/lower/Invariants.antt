-- The b words of boat i and of the later ones, up to the first that is low enough.
use Rattle.marks.proofs.Lowering.{Lowering}
use Rattle.marks.proofs.lower.Given as goal

abbrev pub invariant-loop-j : goal.invariant-loop-j
invariant-loop-j l = Lowering l.i l.h l.j l.initial.work l.work

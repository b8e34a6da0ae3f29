-- As many are read as turns are made.
use Rattle.std.proofs.Common.{◌≤◌, length}
use Rattle.vectors.proofs.lists.at_most.Given as goal

abbrev pub invariant-loop-place : goal.invariant-loop-place
invariant-loop-place g l = length l.read.items ≤ l._place

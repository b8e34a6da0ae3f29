-- Every pair passed has a lower boat of at most the boat.
use Prim.Native.Nat.{ℕ, ◌+◌, ◌<◌}
use Rattle.problem.specs.Tables.{lower}
use Rattle.chains.proofs.pairs_end.Given as goal

abbrev pub invariant-loop-k : goal.invariant-loop-k
invariant-loop-k l = (j : ℕ) → j < l.k → lower l.tables.pairs j < l.boat + 1

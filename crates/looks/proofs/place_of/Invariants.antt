-- Every pair passed is not the one looked for.
use mathlib.Core.Path.{◌≡◌}
use mathlib.Core.Bool.{false}
use Prim.Native.Nat.{ℕ, ◌<◌}
use Rattle.problem.specs.Tables.{is_pair}
use Rattle.looks.proofs.place_of.Given as goal

abbrev pub invariant-loop-k : goal.invariant-loop-k
invariant-loop-k l = (j : ℕ) → j < l.k → is_pair l.pairs l.low l.high j ≡ false

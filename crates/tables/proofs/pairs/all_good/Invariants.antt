-- Every pair passed is good.
use mathlib.Core.Path.{◌≡◌}
use mathlib.Core.Bool.{false}
use Prim.Native.Nat.{ℕ, ◌<◌}
use Rattle.tables.specs.Examination.{first_way_bad}
use Rattle.tables.proofs.pairs.all_good.Given as goal

abbrev pub invariant-loop-k : goal.invariant-loop-k
invariant-loop-k l = (j : ℕ) → j < l.k → (first_way_bad l.boats l.pairs j).cause ≡ false

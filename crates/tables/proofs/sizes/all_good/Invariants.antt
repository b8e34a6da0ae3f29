-- Every boat passed has a good size.
use mathlib.Core.Path.{◌≡◌}
use mathlib.Core.Bool.{false}
use Prim.Native.Nat.{ℕ, ◌<◌}
use Rattle.tables.specs.Examination.{is_bad_size}
use Rattle.tables.proofs.sizes.all_good.Given as goal

abbrev pub invariant-loop-i : goal.invariant-loop-i
invariant-loop-i l = (j : ℕ) → j < l.i → is_bad_size l.sizes j ≡ false

-- Every boat passed has a slot below its size.
use mathlib.Core.Path.{◌≡◌}
use mathlib.Core.Bool.{false}
use Prim.Native.Nat.{ℕ, ◌<◌}
use Rattle.questions.specs.Questions.{bad_slot}
use Rattle.questions.proofs.given.slots_inside.Given as goal

abbrev pub invariant-loop-i : goal.invariant-loop-i
invariant-loop-i l = (j : ℕ) → j < l.i → bad_slot l.tables.sizes l.plan j ≡ false

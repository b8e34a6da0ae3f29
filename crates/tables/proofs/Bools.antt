-- Tests joined by `||` and turned by `not`.
use mathlib.Core.Path.{◌≡◌, refl, ap}
use mathlib.Core.Bool.{Bool, true, false, not, ◌||◌}
use Rattle.problem.proofs.Lowest.{not_both}

pub or_here : (a b : Bool) → a ≡ true → (a || b) ≡ true
or_here true b e = refl
or_here false b e = absurd (not_both e refl)

pub or_rest : (a b : Bool) → a ≡ false → (a || b) ≡ b
or_rest true b e = absurd (not_both refl e)
or_rest false b e = refl

pub or_neither : (a b : Bool) → (a || b) ≡ false → (a ≡ false) × (b ≡ false)
or_neither true b e = absurd (not_both refl e)
or_neither false b e = (refl, e)

pub neither_or : (a b : Bool) → a ≡ false → b ≡ false → (a || b) ≡ false
neither_or true b p q = absurd (not_both refl p)
neither_or false b p q = q

pub fails_not : (b : Bool) → b ≡ false → not b ≡ true
fails_not b e = ap not e

pub passes_not : (b : Bool) → b ≡ true → not b ≡ false
passes_not b e = ap not e

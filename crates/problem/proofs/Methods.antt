-- No number but the five is a method.
use mathlib.Core.Path.{◌≡◌, refl}
use Prim.Native.Nat.{ℕ, zero, suc}
use Rattle.std.specs.Prelude.{None}
use Rattle.problem.specs.Methods.{method_numbered}

pub method_none : (n : ℕ) → (n ≡ 1 → ⊥) → (n ≡ 2 → ⊥) → (n ≡ 3 → ⊥) → (n ≡ 4 → ⊥) → (n ≡ 5 → ⊥) → None ≡ method_numbered n
method_none zero a b c d e = refl
method_none (suc zero) a b c d e = absurd (a refl)
method_none (suc (suc zero)) a b c d e = absurd (b refl)
method_none (suc (suc (suc zero))) a b c d e = absurd (c refl)
method_none (suc (suc (suc (suc zero)))) a b c d e = absurd (d refl)
method_none (suc (suc (suc (suc (suc zero))))) a b c d e = absurd (e refl)
method_none (suc (suc (suc (suc (suc (suc n)))))) a b c d e = refl

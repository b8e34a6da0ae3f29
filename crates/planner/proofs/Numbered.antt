-- What a number says of its method.
use Rattle.std.proofs.Common.{◌≡◌, refl}
use Rattle.std.specs.Prelude.{Option, Some, None, Result, Ok}
use Rattle.problem.specs.Methods.{method_or_refused}
use Rattle.problem.specs.declared.Method.{Method}
use Rattle.problem.specs.declared.Refusal.{Refusal}

pub known : (x : Option Method) {method : Method} → ◌≡◌ {A = Result Method Refusal} (Ok method) (method_or_refused x) → x ≡ Some method
known (Some method) e = cc
known None e = cc

pub missing : (x : Option Method) {found : Result Method Refusal} → found ≡ method_or_refused x → ((method : Method) → found ≡ Ok method → ⊥) → x ≡ None
missing (Some method) e n = absurd (n method e)
missing None e n = refl

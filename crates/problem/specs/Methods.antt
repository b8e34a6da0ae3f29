-- The five methods by their numbers: 1 BT, 2 CBJ, 3 BM, 4 FC, 5 FC-CBJ; no other number is a method.
use Rattle.std.specs.Prelude.{[], ◌∷◌, ℕ, get_or, Option, Some, None, Result, Ok, Err}
use Rattle.problem.specs.declared.Method.{Method}
use Rattle.problem.specs.declared.Method.TheVariants.{Bt, Cbj, Bm, Fc, FcCbj}
use Rattle.problem.specs.declared.Refusal.{Refusal}
use Rattle.problem.specs.declared.Refusal.TheVariants.{Method as NoMethod}

abbrev pub method_numbered : ℕ → Option Method
method_numbered number = get_or (None ∷ Some Bt ∷ Some Cbj ∷ Some Bm ∷ Some Fc ∷ Some FcCbj ∷ []) number None

-- a number that is no method's is refused: number 1
abbrev pub method_or_refused : Option Method → Result Method Refusal
method_or_refused (Some method) = Ok method
method_or_refused None = Err NoMethod

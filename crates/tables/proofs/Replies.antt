-- Two examinations that say the same on paper are the same: each can be read back.
use mathlib.Core.Path.{◌≡◌, refl}
use mathlib.Core.List.{List, [], ◌∷◌}
use Prim.Native.Nat.{ℕ}
use native.Mathlib.Omega.{arith}
use lib.ListN.{get_or}
use Rattle.problem.proofs.Replies.{read_back, told_or, refused_back}
use Rattle.std.specs.Prelude.{Result, Ok, Err}
use Rattle.problem.specs.declared.Problem.{Problem}
use Rattle.problem.specs.declared.Refusal.{Refusal}
use Rattle.tables.specs.Replies.{examined_told}

abbrev fines : List ℕ → List (Result Problem Refusal)
fines values = Ok (record { boats = get_or values 0 0; pairs = get_or values 1 0; words = get_or values 2 0 }) ∷ []

examined_back : (x : Result Problem Refusal) → told_or (fines (examined_told x).values) Err (examined_told x) ≡ x
examined_back (Ok p) = refl
examined_back (Err why) = refused_back (fines (examined_told (Err why)).values) Err (omega arith) why

pub examined_one : (x y : Result Problem Refusal) → examined_told x ≡ examined_told y → x ≡ y
examined_one = read_back examined_told (λ w. told_or (fines w.values) Err w) examined_back

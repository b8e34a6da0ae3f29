-- Two replies that say the same on paper are the same: each can be read back.
use mathlib.Core.Path.{◌≡◌, refl}
use mathlib.Core.Bool.{Bool, true, false}
use mathlib.Core.List.{List, [], ◌∷◌}
use Prim.Native.Nat.{ℕ}
use native.Mathlib.Omega.{arith}
use lib.ListN.{get_or}
use Rattle.std.specs.Prelude.{Option, Some, None, Result, Ok, Err}
use Rattle.problem.specs.declared.Refusal.{Refusal}
use Rattle.problem.proofs.Replies.{read_back, told_or, refused_back}
use Rattle.questions.specs.Replies.{judged_told, broken_told}

-- ---- whether a plan is lawful
abbrev judgements : List (Result Bool Refusal)
judgements = Ok true ∷ Ok false ∷ []

judged_back : (x : Result Bool Refusal) → told_or judgements Err (judged_told x) ≡ x
judged_back (Ok true) = refl
judged_back (Ok false) = refl
judged_back (Err why) = refused_back judgements Err (omega arith) why

pub judged_one : (x y : Result Bool Refusal) → judged_told x ≡ judged_told y → x ≡ y
judged_one = read_back judged_told (told_or judgements Err) judged_back

-- ---- a broken pair
abbrev breaks : List ℕ → List (Result (Option ℕ) Refusal)
breaks values = Ok None ∷ Ok (Some (get_or values 0 0)) ∷ []

broken_back : (x : Result (Option ℕ) Refusal) → told_or (breaks (broken_told x).values) Err (broken_told x) ≡ x
broken_back (Ok None) = refl
broken_back (Ok (Some k)) = refl
broken_back (Err why) = refused_back (breaks (broken_told (Err why)).values) Err (omega arith) why

pub broken_one : (x y : Result (Option ℕ) Refusal) → broken_told x ≡ broken_told y → x ≡ y
broken_one = read_back broken_told (λ w. told_or (breaks w.values) Err w) broken_back

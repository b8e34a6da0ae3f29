-- Two replies of the writer that say the same on paper are the same.
use mathlib.Core.Path.{◌≡◌, refl}
use mathlib.Core.List.{[], ◌∷◌}
use native.Mathlib.Omega.{arith}
use lib.ListN.{get_or}
use Rattle.std.specs.Prelude.{Result, Ok, Err}
use Rattle.problem.specs.declared.Refusal.{Refusal}
use Prim.Native.Nat.{ℕ}
use Rattle.problem.specs.Replies.{Told, refusal_place}
use Rattle.problem.proofs.Replies.{read_back, told_or, refused_back}
use Rattle.writer.specs.Replies.{written_told}

abbrev told_written : Told → Result ℕ Refusal
told_written w = told_or (Ok (get_or w.values 0 0) ∷ []) Err w

written_back : (x : Result ℕ Refusal) → told_written (written_told x) ≡ x
written_back (Ok length) = refl
written_back (Err why) = refused_back (Ok (refusal_place why) ∷ []) Err (omega arith) why

pub written_one : (x y : Result ℕ Refusal) → written_told x ≡ written_told y → x ≡ y
written_one = read_back written_told told_written written_back

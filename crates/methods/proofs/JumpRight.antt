-- No. 14, why each jump is right: what conflict sets know is known in every place that a search comes to.
use mathlib.Core.Path.{◌≡◌}
use mathlib.Core.List.{List, []}
use Prim.Native.Nat.{ℕ, ◌≤◌, ◌<◌}
use lib.Dec.{T}
use lib.ListN.{length}
use Rattle.problem.specs.Tables.{Tables, boats}
use Rattle.methods.specs.Choices.{choices}
use Rattle.methods.specs.Machine.{Steps}
use Rattle.methods.specs.Moves.{Forward}
use Rattle.methods.specs.CBJ.{Jumping, to_blame, jumping}
use Rattle.methods.proofs.Runs.{at, view}
use Rattle.methods.proofs.Standing.{Stands, fit_start}
use Rattle.methods.proofs.Sound.{Honest, Justified, Holds, behind_start, keeps}
use Rattle.methods.specs.Reached.{Reached, start, later}
use Rattle.methods.proofs.Jumps.{Knows, knows_start, full_set, jumps_justified}

module _ (t : Tables) (F : Forward (Unit {0})) (H : Honest t F) where
  -- what is known at the beginning is known in every place
  reached_holds : {S : Type 0} (M : Steps S) (Inv : List ℕ → ℕ → S → Type 0) (J : Justified t F M Inv) → Inv [] 0 M.start →
      {p : List ℕ} {a : ℕ} {σ : S} → Reached t M p a σ → Holds t F H M Inv J p a σ
  reached_holds M Inv J i start = record { fit = fit_start t; behind = behind_start t; inv = i }
  reached_holds M Inv J i (later {p = p} {a = a} {σ = σ} X e) = keeps t F H M Inv J p a σ (reached_holds M Inv J i X) e (view t M p a σ)

  -- whenever a boat has no choice left, the choices of the boats to blame extend to no plan that stands
  pub jump_right : {p : List ℕ} {a : ℕ} {σ : Jumping (Unit {0})} → Reached t (jumping t F) p a σ → length p < boats t → choices t (length p) ≤ a →
      (q : List ℕ) → Stands t q → ((j : ℕ) → T (to_blame F σ p j) → at q j ≡ at p j) → ⊥
  jump_right {p} {a} {σ} X =
      full_set t F H p a σ (reached_holds (jumping t F) (Knows t F H) (jumps_justified t F H) (knows_start t F H) X).inv

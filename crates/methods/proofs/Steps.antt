-- The stepping method over an honest forward move is justified.
use mathlib.Core.Path.{◌≡◌, refl, sym, ap, ◌∙◌}
use mathlib.Core.List.{List}
use Prim.Native.Nat.{ℕ, zero, suc, ◌≤◌, ◌<◌}
use native.Mathlib.Omega.{arith}
use native.Mathlib.Nat.{lt_of_lt_of_le}
use lib.ListN.{length}
use Rattle.problem.specs.Tables.{Tables, boats}
use Rattle.methods.specs.Choices.{choices}
use Rattle.methods.specs.Machine.{nowhere, back}
use Rattle.methods.specs.Moves.{Forward, one_back, stepping}
use Rattle.methods.proofs.Runs.{at}
use Rattle.methods.proofs.Standing.{Stands}
use Rattle.methods.proofs.Sound.{Behind, Honest, Justified}

-- only boat 0 has nowhere to step back to; any other steps back by one
pub no_way : {S : Type 0} (i : ℕ) (after : ℕ → S) → one_back i after ≡ nowhere → i ≡ 0
no_way zero after e = refl
no_way (suc i) after e = let z : ◌≡◌ {A = ℕ} 0 1 = cc in absurd (omega arith)

pub one_way : {S : Type 0} (i : ℕ) (after : ℕ → S) (h : ℕ) (τ : S) → one_back i after ≡ back h τ → i ≡ suc h
one_way zero after h τ e = let z : ◌≡◌ {A = ℕ} 0 1 = cc in absurd (omega arith)
one_way (suc i) after h τ e = let z : i ≡ h = cc in omega arith

pub one_after : {S : Type 0} (i : ℕ) (after : ℕ → S) (h : ℕ) (τ : S) → one_back i after ≡ back h τ → τ ≡ after h
one_after zero after h τ e = let z : ◌≡◌ {A = ℕ} 0 1 = cc in absurd (omega arith)
one_after (suc i) after h τ e =
    let z : i ≡ h = cc in
    let y : after i ≡ τ = cc in
    sym y ∙ ap after z

-- no choice left: no plan that stands agrees with p on the boats below
pub full : (t : Tables) (p : List ℕ) (a : ℕ) → Behind t p a → length p < boats t → choices t (length p) ≤ a →
    (q : List ℕ) → Stands t q → ((j : ℕ) → j < length p → at q j ≡ at p j) → ⊥
full t p a B h l q law agree = B.here (at q (length p)) (lt_of_lt_of_le (law.within (length p) h) l) q law agree refl

pub steps_justified : (t : Tables) (F : Forward (Unit {0})) → Honest t F → Justified t F (stepping F) (λ p a σ. Unit {0})
steps_justified t F H =
    record {
      same_live = λ p a σ i h l. refl;
      same_pass = λ p a σ i h l m. refl;
      keep_skip = λ p a σ f i h l m. tt;
      keep_fail = λ p a σ f i h l m u. tt;
      keep_pass = λ p a σ f i h l m u. tt;
      out = λ p a σ f B i h l e q law.
          let z = no_way (length p) (λ g. F.put_back g σ) e in
          full t p a B h l q law (λ j lj. absurd (omega arith));
      jumps = λ p a σ f B i h l j τ e.
          let z = one_way (length p) (λ g. F.put_back g σ) j τ e in
          (omega arith, λ q law agree. full t p a B h l q law (λ k lk. agree k (omega arith)), tt);
    }

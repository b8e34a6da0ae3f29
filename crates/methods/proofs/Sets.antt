-- Sets of boats by their members: the deepest member, a set that more boats are put into, a set that is handed down by a jump.
use mathlib.Core.Path.{◌≡◌, refl, ap}
use mathlib.Core.Bool.{Bool, true, false, ◌&&◌, ◌||◌, or-true}
use mathlib.Core.Logic.{◌≢◌, ◌⊎◌, inl, inr}
use mathlib.Core.Option.{Option, none, some}
use Prim.Native.Nat.{ℕ, zero, suc, ◌≤◌, ◌<◌}
use native.Mathlib.Omega.{arith}
use native.Mathlib.Decide.{ℕ_discrete}
use lib.Dec.{T}
use borrow.Author.Tests.{eq-eqb, ne_eqb, le-ltb}
use Rattle.problem.proofs.Places.{is_true, to_true}
use Rattle.methods.specs.Machine.{nowhere, back}
use Rattle.methods.specs.Moves.{Boats, fail, Forward}
use Rattle.methods.specs.CBJ.{Sets, Jumping, blamed, deepest, handed_down, jump}

-- ---- tests
pub or_left : (a b : Bool) → T a → T (a || b)
or_left true b x = tt
or_left false b x = absurd x

pub or_right : (a b : Bool) → T b → T (a || b)
or_right true b x = tt
or_right false b x = x

pub or_cases : (a b : Bool) → T (a || b) → T a ⊎ T b
or_cases true b x = inl tt
or_cases false b x = inr x

pub and_both : (a b : Bool) → T a → T b → T (a && b)
and_both true b x y = y
and_both false b x y = x

-- ---- the deepest member
pub deepest_some : (n h : ℕ) (s : Boats) → deepest n s ≡ some h → T (s h) × ((j : ℕ) → j < n → T (s j) → j ≤ h)
unfolding deepest
deepest_some zero h s e = let z : ◌≡◌ {A = ℕ} 0 1 = cc in absurd (omega arith)
deepest_some (suc n) h s e = by_top (s n) refl (deepest_some n h s)
  where
    by_top : (b : Bool) → s n ≡ b → (deepest n s ≡ some h → T (s h) × ((j : ℕ) → j < n → T (s j) → j ≤ h)) → T (s h) × ((j : ℕ) → j < suc n → T (s j) → j ≤ h)
    by_top true x rec = let z : n ≡ h = cc in (rw (← z, x) tt, λ j lj m. omega arith)
    by_top false x rec =
        let z : deepest n s ≡ some h = cc in
        let y = rec z in
        (y.0, λ j lj m. below j lj m (ℕ_discrete j n) y.1)
      where
        below : (j : ℕ) → j < suc n → T (s j) → Dec (j ≡ n) → ((j : ℕ) → j < n → T (s j) → j ≤ h) → j ≤ h
        below j lj m (yes e') f = absurd (rw (e', x) at m)
        below j lj m (no ne) f = f j (omega arith) m

pub deepest_none : (n : ℕ) (s : Boats) → deepest n s ≡ none → (j : ℕ) → j < n → T (s j) → ⊥
unfolding deepest
deepest_none zero s e j lj m = omega arith
deepest_none (suc n) s e j lj m = by_top (s n) refl (deepest_none n s) (ℕ_discrete j n)
  where
    by_top : (b : Bool) → s n ≡ b → (deepest n s ≡ none → (j : ℕ) → j < n → T (s j) → ⊥) → Dec (j ≡ n) → ⊥
    by_top true x rec d = let z : ◌≡◌ {A = ℕ} 0 1 = cc in omega arith
    by_top false x rec (yes e') = rw (e', x) at m
    by_top false x rec (no ne) = let z : deepest n s ≡ none = cc in rec z j (omega arith) m

-- ---- boats put into the set of boat i
module _ (sets : Sets) (i : ℕ) (s : Boats) where
  pub blamed_old : (k j : ℕ) → T (sets k j) → T (blamed sets i {S = Unit {0}} (fail s) k j)
  blamed_old k j x = by (ℕ_discrete k i)
    where
      by : Dec (k ≡ i) → T (blamed sets i {S = Unit {0}} (fail s) k j)
      by (yes e) = to_true (blamed sets i {S = Unit {0}} (fail s) k j) (simp (eq-eqb k i e, is_true (sets k j) x))
      by (no n) = to_true (blamed sets i {S = Unit {0}} (fail s) k j) (simp (ne_eqb k i n, is_true (sets k j) x))

  pub blamed_new : (j : ℕ) → T (s j) → T (blamed sets i {S = Unit {0}} (fail s) i j)
  blamed_new j x = to_true (blamed sets i {S = Unit {0}} (fail s) i j) (simp (eq-eqb i i refl, is_true (s j) x, or-true))

-- ---- the boats s handed down from boat i to boat h
module _ (sets : Sets) (i h : ℕ) (s : Boats) where
  pub handed_below : (k j : ℕ) → k < h → handed_down sets i h s k j ≡ sets k j
  handed_below k j lk =
      let e = ne_eqb k h (omega arith) in
      let f = le-ltb h k (omega arith) in
      cc

  pub handed_old : (j : ℕ) → T (sets h j) → j ≢ h → T (handed_down sets i h s h j)
  handed_old j x ne = to_true (handed_down sets i h s h j) (simp (eq-eqb h h refl, is_true (sets h j) x, ne_eqb j h ne))

  pub handed_new : (j : ℕ) → T (s j) → j ≢ h → T (handed_down sets i h s h j)
  handed_new j x ne = to_true (handed_down sets i h s h j) (simp (eq-eqb h h refl, is_true (s j) x, or-true, ne_eqb j h ne))

-- ---- where a jump goes: nowhere if nobody is to blame, else to the deepest that is
module _ {S : Type 0} (F : Forward S) (σ : Jumping S) (i : ℕ) (s : Boats) where
  pub jump_out : (x : Option ℕ) → jump F σ i s x ≡ nowhere → x ≡ none
  jump_out none e = refl
  jump_out (some h) e = let z : ◌≡◌ {A = ℕ} 0 1 = cc in absurd (omega arith)

  pub jump_back : (x : Option ℕ) (h : ℕ) (τ : Jumping S) → jump F σ i s x ≡ back h τ →
      (x ≡ some h) × (τ ≡ record { sets = handed_down σ.sets i h s; rest = F.put_back h σ.rest })
  jump_back none h τ e = let z : ◌≡◌ {A = ℕ} 0 1 = cc in absurd (omega arith)
  jump_back (some g) h τ e =
      let z : g ≡ h = cc in
      let y : record { sets = handed_down σ.sets i g s; rest = F.put_back g σ.rest } ≡ τ = cc in
      (ap some z, rw (← y, z))

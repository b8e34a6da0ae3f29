-- Looking back: the first placed boat that does not allow a choice, and the checks made on the way to it.
use mathlib.Core.Path.{◌≡◌, refl}
use mathlib.Core.Bool.{Bool, true, false, cond}
use mathlib.Core.List.{List, [], ◌∷◌}
use mathlib.Core.Option.{none, some}
use Prim.Native.Nat.{ℕ, zero, suc, ◌+◌, ◌<◌}
use native.Mathlib.Omega.{arith}
use native.Mathlib.Nat.{add-zero, le_of_suc-le-suc}
use lib.Dec.{T}
use lib.ListN.{length}
use Rattle.problem.specs.Tables.{Tables, is_listed}
use Rattle.problem.proofs.Places.{allowed_unlisted}
use Rattle.events.specs.Events.{check, trials, checks, trials_of}
use Rattle.methods.specs.Choices.{may_stand}
use Rattle.methods.specs.BT.{look_at, look_back}
use Rattle.methods.specs.ByPlan.{refuser}
use Rattle.methods.proofs.Runs.{at}

-- a pair that is not listed allows everything
pub may_unlisted : (t : Tables) (h x i y : ℕ) → is_listed t.pairs h i ≡ false → may_stand t h x i y ≡ true
unfolding may_stand
may_unlisted t h x i y e = allowed_unlisted t h _ i _ e

module _ (t : Tables) (i a : ℕ) where
  pub failing_is : (h : ℕ) (xs : List ℕ) → (look_back t i a h xs).failing ≡ refuser t i a h xs
  unfolding look_back refuser
  failing_is h [] = refl
  failing_is h (x ∷ xs) = by (is_listed t.pairs h i) refl (may_stand t h x i a) refl (failing_is (suc h) xs)
    where
      by : (l : Bool) → is_listed t.pairs h i ≡ l → (m : Bool) → may_stand t h x i a ≡ m → (look_back t i a (suc h) xs).failing ≡ refuser t i a (suc h) xs →
          (look_at h (check h x i a) l m (look_back t i a (suc h) xs)).failing ≡ cond m (refuser t i a (suc h) xs) (some h)
      by true l true m rec = rec
      by true l false m rec = refl
      by false l true m rec = rec
      by false l false m rec = let z : ◌≡◌ {A = ℕ} 0 1 = cc (may_unlisted t h x i a l) in absurd (omega arith)

  pub refuser_some : (h : ℕ) (xs : List ℕ) (g : ℕ) → refuser t i a h xs ≡ some g → (k : ℕ) × (g ≡ h + k) × (k < length xs) × (may_stand t g (at xs k) i a ≡ false)
  unfolding refuser
  refuser_some h [] g e = let z : ◌≡◌ {A = ℕ} 0 1 = cc in absurd (omega arith)
  refuser_some h (x ∷ xs) g e = by (may_stand t h x i a) refl (refuser_some (suc h) xs g)
    where
      by : (b : Bool) → may_stand t h x i a ≡ b →
          (refuser t i a (suc h) xs ≡ some g → (k : ℕ) × (g ≡ suc h + k) × (k < length xs) × (may_stand t g (at xs k) i a ≡ false)) →
          (k : ℕ) × (g ≡ h + k) × (k < length (x ∷ xs)) × (may_stand t g (at (x ∷ xs) k) i a ≡ false)
      by true m rec =
          let z : refuser t i a (suc h) xs ≡ some g = cc in
          let y = rec z in
          (suc y.0, omega arith, omega arith, y.3)
      by false m rec =
          let z : h ≡ g = cc in
          (0, omega arith, omega arith, rw (← z) m)

  pub refuser_none : (h : ℕ) (xs : List ℕ) → refuser t i a h xs ≡ none → (k : ℕ) → k < length xs → T (may_stand t (h + k) (at xs k) i a)
  unfolding refuser
  refuser_none h [] e k lk = absurd (omega arith)
  refuser_none h (x ∷ xs) e k lk = by (may_stand t h x i a) refl (refuser_none (suc h) xs) k lk
    where
      by : (b : Bool) → may_stand t h x i a ≡ b → (refuser t i a (suc h) xs ≡ none → (k : ℕ) → k < length xs → T (may_stand t (suc h + k) (at xs k) i a)) →
          (k : ℕ) → k < length (x ∷ xs) → T (may_stand t (h + k) (at (x ∷ xs) k) i a)
      by true m rec zero lk = rw (add-zero h, m) tt
      by true m rec (suc k) lk =
          let z : refuser t i a (suc h) xs ≡ none = cc in
          let y : h + suc k ≡ suc h + k = omega arith in
          rw y (rec z k (le_of_suc-le-suc lk))
      by false m rec k lk = let z : ◌≡◌ {A = ℕ} 0 1 = cc in absurd (omega arith)

  -- the boats before the first that refuses allow
  pub refuser_first : (h : ℕ) (xs : List ℕ) (g : ℕ) → refuser t i a h xs ≡ some g → (k : ℕ) → h + k < g → T (may_stand t (h + k) (at xs k) i a)
  unfolding refuser
  refuser_first h [] g e k lk = let z : ◌≡◌ {A = ℕ} 0 1 = cc in absurd (omega arith)
  refuser_first h (x ∷ xs) g e k lk = by (may_stand t h x i a) refl (refuser_first (suc h) xs g) k lk
    where
      by : (b : Bool) → may_stand t h x i a ≡ b → (refuser t i a (suc h) xs ≡ some g → (k : ℕ) → suc h + k < g → T (may_stand t (suc h + k) (at xs k) i a)) →
          (k : ℕ) → h + k < g → T (may_stand t (h + k) (at (x ∷ xs) k) i a)
      by true m rec zero lk = rw (add-zero h, m) tt
      by true m rec (suc k) lk =
          let z : refuser t i a (suc h) xs ≡ some g = cc in
          let y : h + suc k ≡ suc h + k = omega arith in
          rw y (rec z k (omega arith))
      by false m rec k lk = let z : h ≡ g = cc in absurd (omega arith)

  -- looking back makes no trial
  pub look_trials : (h : ℕ) (xs : List ℕ) → trials (look_back t i a h xs).checks ≡ 0
  unfolding look_back trials_of
  look_trials h [] = refl
  look_trials h (x ∷ xs) = by (is_listed t.pairs h i) (may_stand t h x i a) (look_trials (suc h) xs)
    where
      by : (l m : Bool) → trials (look_back t i a (suc h) xs).checks ≡ 0 → trials (look_at h (check h x i a) l m (look_back t i a (suc h) xs)).checks ≡ 0
      by true true rec = rec
      by true false rec = refl
      by false m rec = rec

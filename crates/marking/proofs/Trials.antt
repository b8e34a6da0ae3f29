-- The step of BM at a choice: on to the next one where the mark tells that it fails; where it does not, boats are looked at from b on.
use mathlib.Core.Path.{◌≡◌, refl, ap, ◌∙◌}
use mathlib.Core.Bool.{Bool, true, false}
use mathlib.Core.List.{List, [], ◌∷◌, ◌++◌}
use mathlib.Core.Option.{Option, none, some}
use Prim.Native.Nat.{ℕ, suc, ◌≤◌, ◌<◌}
use lib.Dec.{ltb}
use lib.ListN.{length, drop}
use borrow.Author.Tests.{lt-ltb, le-ltb}
use Rattle.problem.specs.Tables.{Tables, boats}
use Rattle.events.specs.Events.{Event, trial}
use Rattle.methods.specs.Choices.{choices}
use Rattle.methods.specs.Machine.{Tried, Step, next, step}
use Rattle.methods.specs.BT.{Looked, look_back}
use Rattle.methods.specs.BM.{Marks, marked, marked_trial, is_clear, last_looked_at, bm}
use Rattle.methods.proofs.Runs.{step_fail, step_pass}

-- where a trial of choice a leads, by the boat that failed: forward, or on to the next choice
abbrev plan_after : (p : List ℕ) → (a : ℕ) → Option ℕ → List ℕ
plan_after p a none = p ++ (a ∷ [])
plan_after p a (some h) = p

abbrev choice_after : (a : ℕ) → Option ℕ → ℕ
choice_after a none = 0
choice_after a (some h) = suc a

-- τ has the mark, by the last boat looked at
abbrev pub led : (p : List ℕ) → (i a : ℕ) → List Event → (τ : ℕ → Marks) → Option ℕ → Step Marks
led p i a es τ f = next es (plan_after p a f) (choice_after a f) (τ (last_looked_at i f))

module _ (t : Tables) (p : List ℕ) (a : ℕ) (σ : Marks) (lt : length p < boats t) (la : a < choices t (length p)) where
  -- a trial by the boat that failed
  tries : (es : List Event) (f : Option ℕ) (τ : Marks) → (bm t).label σ p a ≡ record { checks = es; passed = is_clear f; after = τ } →
      step t (bm t) p a σ ≡ next (trial (length p) a ∷ es) (plan_after p a f) (choice_after a f) τ
  unfolding bm
  tries es none τ e =
      step_pass t (bm t) p a σ lt la refl (ap (λ (x : Tried Marks). x.passed) e)
      ∙ ap (λ (x : Tried Marks). next (trial (length p) a ∷ x.checks) (p ++ (a ∷ [])) 0 x.after) e
  tries es (some h) τ e =
      step_fail t (bm t) p a σ lt la refl (ap (λ (x : Tried Marks). x.passed) e)
      ∙ ap (λ (x : Tried Marks). next (trial (length p) a ∷ x.checks) p (suc a) x.after) e

  -- b is the first boat that is looked at
  module _ (b : ℕ) (eb : σ.b (length p) ≡ b) where
    abbrev looked : Looked
    looked = look_back t (length p) a b (drop b p)

    label_is : (below : Bool) → ltb (σ.m (length p) a) b ≡ below → (bm t).label σ p a ≡ marked_trial σ (length p) a looked below
    unfolding bm
    label_is below e =
        ap (λ (x : ℕ). marked_trial σ (length p) a (look_back t (length p) a x (drop x p)) (ltb (σ.m (length p) a) x)) eb
        ∙ ap (marked_trial σ (length p) a looked) e

    pub step_below : σ.m (length p) a < b → step t (bm t) p a σ ≡ next (trial (length p) a ∷ []) p (suc a) σ
    step_below l = tries [] (some (σ.m (length p) a)) σ (label_is true (lt-ltb _ _ l))

    pub step_looks : b ≤ σ.m (length p) a → step t (bm t) p a σ ≡ led p (length p) a (trial (length p) a ∷ looked.checks) (marked σ (length p) a) looked.failing
    step_looks l = tries looked.checks looked.failing _ (label_is false (le-ltb _ _ l))

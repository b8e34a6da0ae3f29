-- How great BM's marks and b can be: those of boat k are at most k - 1, at every place that a search comes to.
use mathlib.Core.Path.{◌≡◌, refl, sym, ◌∙◌}
use mathlib.Core.Bool.{Bool, true, false, cond, ◌&&◌}
use mathlib.Core.List.{List}
use mathlib.Core.Option.{Option, none, some}
use Prim.Native.Nat.{ℕ, suc, pred, ◌≤◌, ◌<◌, zero-le}
use native.Mathlib.Omega.{arith}
use native.Mathlib.Decide.{dec_lt, ℕ_discrete}
use native.Mathlib.Nat.{le_refl}
use lib.Dec.{eqb, ltb}
use lib.ListN.{length, drop, length-drop}
use borrow.Author.Tests.{eq-eqb, ne_eqb, lt-ltb, le-ltb}
use Rattle.problem.specs.Tables.{Tables}
use Rattle.events.specs.Events.{Event}
use Rattle.methods.specs.Machine.{next, step}
use Rattle.methods.specs.BT.{look_back}
use Rattle.methods.specs.BM.{Marks, last_looked_at, marked, marked_trial, lowered, bm}
use Rattle.methods.specs.Reached.{Reached, start, later}
use Rattle.methods.proofs.Runs.{stop_or_next, next_same, View, at_end_lem, at_out, at_back, at_astray, at_skip, at_fail, at_pass, view}
use Rattle.methods.proofs.Steps.{one_way, one_after}
use Rattle.methods.proofs.Looking.{failing_is, refuser_some}

-- all of boat k are at most k - 1
abbrev Small : Marks → Type 0
Small σ = (k : ℕ) → (σ.b k ≤ pred k) × ((x : ℕ) → σ.m k x ≤ pred k)

-- a mark is changed to one that is small
marked_small : (σ : Marks) (i a last : ℕ) → Small σ → last ≤ pred i → Small (marked σ i a last)
marked_small σ i a last K l k = ((K k).0, λ x. by x (ℕ_discrete k i) (eqb x a))
  where
    by : (x : ℕ) → Dec (k ≡ i) → (e : Bool) → cond (eqb k i && e) last (σ.m k x) ≤ pred k
    by x (yes y) true = rw (y, eq-eqb i i refl) l
    by x (yes y) false = rw (y, eq-eqb i i refl) ((K i).1 x)
    by x (no ny) e = rw (ne_eqb k i ny) ((K k).1 x)

-- going back from boat h + 1 to boat h
lowered_small : (σ : Marks) (h : ℕ) → Small σ → Small (lowered σ (suc h) h)
lowered_small σ h K k = (by (ℕ_discrete k (suc h)) (dec_lt (suc h) k), (K k).1)
  where
    by : Dec (k ≡ suc h) → Dec (suc h < k) → (lowered σ (suc h) h).b k ≤ pred k
    by (yes y) d = rw (y, eq-eqb (suc h) (suc h) refl) (le_refl h)
    by (no ny) (yes g) = rw (ne_eqb k (suc h) ny, lt-ltb (suc h) k g) (omega (arith, (K k).0))
    by (no ny) (no ng) = rw (ne_eqb k (suc h) ny, le-ltb (suc h) k (omega arith)) (K k).0

module _ (t : Tables) where
  -- the last boat looked at by boat i = length p is at most i - 1: a boat that fails is one of p
  last_small : (p : List ℕ) (a b : ℕ) (y : Option ℕ) → (look_back t (length p) a b (drop b p)).failing ≡ y → last_looked_at (length p) y ≤ pred (length p)
  last_small p a b none e = le_refl _
  last_small p a b (some g) e =
      let w = refuser_some t (length p) a b (drop b p) g (sym (failing_is t (length p) a b (drop b p)) ∙ e) in
      omega (arith, w.1, w.2, length-drop b p)

  -- a trial
  trial_small : (p : List ℕ) (a : ℕ) (σ : Marks) → Small σ → (below : Bool) →
      Small (marked_trial σ (length p) a (look_back t (length p) a (σ.b (length p)) (drop (σ.b (length p)) p)) below).after
  trial_small p a σ K true = K
  trial_small p a σ K false = marked_small σ (length p) a _ K (last_small p a (σ.b (length p)) _ refl)

  -- one step, by the rule that it takes
  small_next : (p : List ℕ) (a : ℕ) (σ : Marks) → Small σ → {es : List Event} {p₁ : List ℕ} {a₁ : ℕ} {σ₁ : Marks} →
      step t (bm t) p a σ ≡ next es p₁ a₁ σ₁ → View t (bm t) p a σ → Small σ₁
  unfolding bm
  small_next p a σ K e (at_end_lem h s) = absurd (stop_or_next (step t (bm t) p a σ) s e)
  small_next p a σ K e (at_out h l m s) = absurd (stop_or_next (step t (bm t) p a σ) s e)
  small_next p a σ K e (at_back lp l h τ m lh s) =
      let z = one_way (length p) (λ k. lowered σ (length p) k) h τ m in
      let y = one_after (length p) (λ k. lowered σ (length p) k) h τ m in
      rw ((next_same (step t (bm t) p a σ) e s).3, y, z) (lowered_small σ h K)
  small_next p a σ K e (at_astray h l j τ m b s) = absurd (stop_or_next (step t (bm t) p a σ) s e)
  small_next p a σ K e (at_skip h l m s) = rw (next_same (step t (bm t) p a σ) e s).3 K
  small_next p a σ K e (at_fail h l m u s) =
      rw (next_same (step t (bm t) p a σ) e s).3 (trial_small p a σ K (ltb (σ.m (length p) a) (σ.b (length p))))
  small_next p a σ K e (at_pass h l m u s) =
      rw (next_same (step t (bm t) p a σ) e s).3 (trial_small p a σ K (ltb (σ.m (length p) a) (σ.b (length p))))

-- BM's marks and b at every place that the search from the beginning comes to: of boat k they are at most k - 1, and 0 at boat 0.
pub marks_small : (t : Tables) {p : List ℕ} {a : ℕ} {σ : Marks} → Reached t (bm t) p a σ → (k : ℕ) → (σ.b k ≤ pred k) × ((x : ℕ) → σ.m k x ≤ pred k)
unfolding bm
marks_small t start = λ k. (zero-le, λ x. zero-le)
marks_small t (later {p = p} {a = a} {σ = σ} X e) = small_next t p a σ (marks_small t X) e (view t (bm t) p a σ)

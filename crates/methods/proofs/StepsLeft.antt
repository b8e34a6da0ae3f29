-- Every step leaves fewer steps ahead, so the machine ends from every place, and a search is one step and then the search from there on.
use mathlib.Core.Path.{◌≡◌, refl, sym, ap, ◌∙◌, subst}
use mathlib.Core.Bool.{Bool, true, false}
use mathlib.Core.List.{List, [], ◌∷◌, ◌++◌}
use Prim.Native.Nat.{ℕ, zero, suc, ◌+◌, ◌-◌, ◌*◌, ◌≤◌, ◌<◌}
use native.Mathlib.Nat.{suc-mul, sub-zero, not-suc-le-zero, le_of_suc-le-suc, zero-add, lt_of_lt_of_le, mul-le-mul_right}
use native.Mathlib.Omega.{arith}
use borrow.Author.Tests.{ltb-true}
use lib.Dec.{ltb}
use lib.ListN.{length, get_or, take}
use Rattle.problem.specs.Tables.{Tables, boats}
use Rattle.events.specs.Events.{Event, Search, ◌then◌}
use Rattle.methods.specs.Choices.{choices}
use Rattle.methods.specs.Machine.{Tried, Left, nowhere, back, Steps, Step, stop, next, tried, back_to, leave, at_choice, at_boat, at_plan, step, onward, bounded_search, counts, span, steps_left, search_from}

-- ---- the choices of the boats, as a list
counts_length : (t : Tables) (i m : ℕ) → length (counts t i m) ≡ m
unfolding counts
counts_length t i zero = refl
counts_length t i (suc m) = ap suc (counts_length t (suc i) m)

counts_at : (t : Tables) (i m j : ℕ) → j < m → get_or (counts t i m) j 0 ≡ choices t (i + j)
unfolding counts
counts_at t i zero j h = absurd (not-suc-le-zero h)
counts_at t i (suc m) zero h = let e : i + 0 ≡ i = omega arith in rw e
counts_at t i (suc m) (suc j) h = let e : i + suc j ≡ suc i + j = omega arith in rw e (counts_at t (suc i) m j (le_of_suc-le-suc h))

-- ---- the number of steps ahead falls
left_pos : (ss p : List ℕ) (a : ℕ) → 0 < steps_left ss p a
unfolding steps_left
left_pos [] p a = omega arith
left_pos (s ∷ ss) [] a = omega arith
left_pos (s ∷ ss) (x ∷ p) a = omega arith

left_start : (ss : List ℕ) → steps_left ss [] 0 ≡ span ss
unfolding steps_left span
left_start [] = refl
left_start (s ∷ ss) = rw sub-zero

fewer : (s a k : ℕ) → a < s → (s - a) * k ≡ (s - suc a) * k + k
fewer s a k h = subst (λ (x : ℕ). x * k ≡ (s - suc a) * k + k) {x = suc (s - suc a)} (omega arith) (suc-mul (s - suc a) k)

left_next : (ss p : List ℕ) (a : ℕ) → length p < length ss → a < get_or ss (length p) 0 → steps_left ss p (suc a) < steps_left ss p a
unfolding steps_left
left_next [] p a l h = absurd (not-suc-le-zero l)
left_next (s ∷ ss) [] a l h = omega (arith, fewer s a (suc (span ss)) h)
left_next (s ∷ ss) (x ∷ p) a l h = omega (arith, left_next ss p a (le_of_suc-le-suc l) h)

left_forward : (ss p : List ℕ) (a : ℕ) → length p < length ss → a < get_or ss (length p) 0 → steps_left ss (p ++ (a ∷ [])) 0 < steps_left ss p a
unfolding steps_left
left_forward [] p a l h = absurd (not-suc-le-zero l)
left_forward (s ∷ ss) [] a l h = omega (arith, fewer s a (suc (span ss)) h, left_start ss)
left_forward (s ∷ ss) (x ∷ p) a l h = omega (arith, left_forward ss p a (le_of_suc-le-suc l) h)

left_back : (ss p : List ℕ) (a h : ℕ) → length p < length ss → h < length p → steps_left ss (take h p) (suc (get_or p h 0)) < steps_left ss p a
unfolding steps_left
left_back [] p a h l b = absurd (not-suc-le-zero l)
left_back (s ∷ ss) [] a h l b = absurd (not-suc-le-zero b)
left_back (s ∷ ss) (x ∷ p) a zero l b = omega (arith, left_pos ss p a)
left_back (s ∷ ss) (x ∷ p) a (suc h) l b = omega (arith, left_back ss p a h (le_of_suc-le-suc l) (le_of_suc-le-suc b))

-- a later choice has no more ahead
left_later : (ss p : List ℕ) (a b : ℕ) → a ≤ b → steps_left ss p b ≤ steps_left ss p a
unfolding steps_left
left_later [] p a b h = omega arith
left_later (s ∷ ss) [] a b h = let d : s - b ≤ s - a = omega arith in omega (arith, mul-le-mul_right (suc (span ss)) d)
left_later (s ∷ ss) (x ∷ p) a b h = omega (arith, left_later ss p a b h)

-- ---- what a search has ahead, from a plan so far and a next choice on
unfoldable pub steps_left_of : Tables → (plan : List ℕ) → (choice : ℕ) → ℕ
steps_left_of t p a = steps_left (counts t 0 (boats t)) p a

module _ (t : Tables) (p : List ℕ) (a : ℕ) (lp : length p < boats t) where
  listed_boat : length p < length (counts t 0 (boats t))
  listed_boat = rw (counts_length t 0 (boats t)) lp

  -- a choice from a on has passed
  pub forward_falls : (b : ℕ) → a ≤ b → b < choices t (length p) → steps_left_of t (p ++ (b ∷ [])) 0 < steps_left_of t p a
  unfolding steps_left_of
  forward_falls b le lb =
      lt_of_lt_of_le
      (left_forward (counts t 0 (boats t)) p b listed_boat (rw (counts_at t 0 (boats t) (length p) lp, zero-add (length p)) lb))
      (left_later (counts t 0 (boats t)) p a b le)

  -- back to a boat
  pub return_falls : (h : ℕ) → h < length p → steps_left_of t (take h p) (suc (get_or p h 0)) < steps_left_of t p a
  unfolding steps_left_of
  return_falls h lh = left_back (counts t 0 (boats t)) p a h listed_boat lh

-- ---- every step falls
module _ (t : Tables) {S : Type 0} (M : Steps S) where
  unfoldable pub steps_to_come : List ℕ → ℕ → ℕ
  steps_to_come p a = steps_left (counts t 0 (boats t)) p a

  abbrev Falls : List ℕ → ℕ → Step S → Type 0
  Falls p a (stop r) = Unit {0}
  Falls p a (next es q b σ) = steps_to_come q b < steps_to_come p a

  module _ (p : List ℕ) (a : ℕ) (lp : length p < boats t) where
    short : length p < length (counts t 0 (boats t))
    short = rw (counts_length t 0 (boats t)) lp

    here : a < choices t (length p) → a < get_or (counts t 0 (boats t)) (length p) 0
    here h = rw (counts_at t 0 (boats t) (length p) lp, zero-add (length p)) h

    tried_falls : (es : List Event) (σ : S) (b : Bool) → a < choices t (length p) → Falls p a (tried p a es σ b)
    unfolding steps_to_come tried
    tried_falls es σ true h = left_forward (counts t 0 (boats t)) p a short (here h)
    tried_falls es σ false h = left_next (counts t 0 (boats t)) p a short (here h)

    choice_falls : (r : Tried S) (b : Bool) → a < choices t (length p) → Falls p a (at_choice t M p a r b)
    unfolding steps_to_come at_choice
    choice_falls r true h = tried_falls _ _ _ h
    choice_falls r false h = left_next (counts t 0 (boats t)) p a short (here h)

    back_falls : (h : ℕ) (σ : S) (b : Bool) → ltb h (length p) ≡ b → Falls p a (back_to p a h σ b)
    unfolding steps_to_come back_to
    back_falls h σ true e = left_back (counts t 0 (boats t)) p a h short (ltb-true _ _ e)
    back_falls h σ false e = tt

    leave_falls : (l : Left S) → Falls p a (leave p a l)
    unfolding leave
    leave_falls nowhere = tt
    leave_falls (back h σ) = back_falls h σ _ refl

    boat_falls : (σ : S) (b : Bool) → ltb a (choices t (length p)) ≡ b → Falls p a (at_boat t M p a σ b)
    unfolding at_boat
    boat_falls σ true e = choice_falls _ _ (ltb-true _ _ e)
    boat_falls σ false e = leave_falls _

  plan_falls : (p : List ℕ) (a : ℕ) (σ : S) (b : Bool) → ltb (length p) (boats t) ≡ b → Falls p a (at_plan t M p a σ b)
  unfolding at_plan
  plan_falls p a σ true e = boat_falls p a (ltb-true _ _ e) σ _ refl
  plan_falls p a σ false e = tt

  pub falls : (p : List ℕ) (a : ℕ) (σ : S) (es : List Event) (q : List ℕ) (b : ℕ) (τ : S) → step t M p a σ ≡ next es q b τ → steps_to_come q b < steps_to_come p a
  unfolding step
  falls p a σ es q b τ e = subst (Falls p a) e (plan_falls p a σ _ refl)

  -- ---- fuel that is enough is all the same
  bounded_suc : (f : ℕ) (p : List ℕ) (a : ℕ) (σ : S) → bounded_search t M (suc f) p a σ ≡ onward (bounded_search t M f) (step t M p a σ)
  unfolding bounded_search
  bounded_suc f p a σ = refl

  onward_same : (u v : List ℕ → ℕ → S → Search) (s : Step S) → ((es : List Event) (p : List ℕ) (a : ℕ) (σ : S) → s ≡ next es p a σ → u p a σ ≡ v p a σ) → onward u s ≡ onward v s
  unfolding onward
  onward_same u v (stop r) h = refl
  onward_same u v (next es p a σ) h = ap (λ (s : Search). es then s) (h es p a σ refl)

  enough : (f g : ℕ) (p : List ℕ) (a : ℕ) (σ : S) → steps_to_come p a ≤ f → steps_to_come p a ≤ g → bounded_search t M f p a σ ≡ bounded_search t M g p a σ
  unfolding steps_to_come
  enough zero g p a σ hf hg = absurd (omega (arith, left_pos (counts t 0 (boats t)) p a))
  enough (suc f) zero p a σ hf hg = absurd (omega (arith, left_pos (counts t 0 (boats t)) p a))
  enough (suc f) (suc g) p a σ hf hg =
      bounded_suc f p a σ
      ∙ onward_same (bounded_search t M f) (bounded_search t M g) (step t M p a σ)
      (λ es q b τ e. enough f g q b τ (omega (arith, falls p a σ es q b τ e)) (omega (arith, falls p a σ es q b τ e)))
      ∙ sym (bounded_suc g p a σ)

  -- THE STEP EQUATION, from every place
  pub search_step : (p : List ℕ) (a : ℕ) (σ : S) → search_from t M p a σ ≡ onward (search_from t M) (step t M p a σ)
  unfolding search_from steps_to_come
  search_step p a σ =
      enough (steps_to_come p a) (suc (steps_to_come p a)) p a σ (omega arith) (omega arith)
      ∙ bounded_suc (steps_to_come p a) p a σ
      ∙ onward_same (bounded_search t M (steps_to_come p a)) (search_from t M) (step t M p a σ)
      (λ es q b τ e. enough (steps_to_come p a) (steps_to_come q b) q b τ (omega (arith, falls p a σ es q b τ e)) (omega arith))

  -- a step that goes on
  pub search_next : (p : List ℕ) (a : ℕ) (σ : S) {es : List Event} {q : List ℕ} {b : ℕ} {τ : S} → step t M p a σ ≡ next es q b τ →
      search_from t M p a σ ≡ es then search_from t M q b τ
  unfolding onward
  search_next p a σ e = search_step p a σ ∙ ap (onward (search_from t M)) e

  -- induction over a search: a claim holds of a place if it holds of the next one
  module _ {ℓ} (P : List ℕ → ℕ → S → Type ℓ)
      (each : (p : List ℕ) (a : ℕ) (σ : S) → ((es : List Event) (q : List ℕ) (b : ℕ) (τ : S) → step t M p a σ ≡ next es q b τ → P q b τ) → P p a σ) where
    steps_below : (n : ℕ) (p : List ℕ) (a : ℕ) (σ : S) → steps_to_come p a < n → P p a σ
    steps_below zero p a σ h = absurd (not-suc-le-zero h)
    steps_below (suc n) p a σ h = each p a σ (λ es q b τ e. steps_below n q b τ (omega (arith, falls p a σ es q b τ e)))

    pub by_steps : (p : List ℕ) (a : ℕ) (σ : S) → P p a σ
    by_steps p a σ = steps_below (suc (steps_to_come p a)) p a σ (omega arith)

-- Two methods that do the same, whatever each remembers, make the same search.
use mathlib.Core.Path.{◌≡◌, refl, sym, ◌∙◌, ap, subst}
use mathlib.Core.Bool.{Bool, true, false}
use mathlib.Core.List.{List, [], ◌∷◌, ◌++◌}
use Prim.Native.Nat.{ℕ, suc, ◌≤◌, ◌<◌}
use borrow.Author.Tests.{ltb-true, ltb-false}
use lib.Dec.{ltb}
use lib.ListN.{length, take, drop}
use Rattle.problem.specs.Tables.{Tables, boats}
use Rattle.events.specs.Events.{Event, Ending, Search, ◌then◌}
use Rattle.methods.specs.Choices.{choices}
use Rattle.methods.specs.Machine.{Left, nowhere, back, Steps, Step, stop, next, tried, back_to, leave, at_choice, at_boat, at_plan, step, onward, search_from, unmade, search_inside}
use Rattle.methods.proofs.Runs.{at, Runs, ends, goes, readied, labelled, runs_from, from_runs}

-- what the two remember is related by R, at a plan so far and the next choice
module _ {S S' : Type 0} (R : List ℕ → ℕ → S → S' → Type 0) where
  -- the same way from p: nowhere, or back to the same boat
  pub data SameWay (p : List ℕ) : Left S → Left S' → Type 0 where
    both_nowhere : SameWay p nowhere nowhere
    both_back : {h : ℕ} {σ : S} {τ : S'} → (h < length p → R (take h p) (suc (at p h)) σ τ) → SameWay p (back h σ) (back h τ)

  -- the same step
  abbrev pub SameStep : Step S → Step S' → Type 0
  SameStep (stop r) (stop s) = r ≡ s
  SameStep (stop r) (next fs q b τ) = ⊥
  SameStep (next es p a σ) (stop s) = ⊥
  SameStep (next es p a σ) (next fs q b τ) = (es ≡ fs) × (p ≡ q) × (a ≡ b) × R p a σ τ

module _ (t : Tables) {S S' : Type 0} (M : Steps S) (N : Steps S') (R : List ℕ → ℕ → S → S' → Type 0) where
  -- from related memories the two methods do the same, and their memories stay related
  pub record Alike : Type 0 where
    pub same_ready : (p : List ℕ) (a : ℕ) (σ : S) (τ : S') → R p a σ τ → length p < boats t → a < choices t (length p) →
        ((readied t M p a σ).checks ≡ (readied t N p a τ).checks) × ((readied t M p a σ).passed ≡ (readied t N p a τ).passed)
    pub keep_skip : (p : List ℕ) (a : ℕ) (σ : S) (τ : S') → R p a σ τ → length p < boats t → a < choices t (length p) →
        (readied t M p a σ).passed ≡ false → R p (suc a) (readied t M p a σ).after (readied t N p a τ).after
    pub same_label : (p : List ℕ) (a : ℕ) (σ : S) (τ : S') → R p a σ τ → length p < boats t → a < choices t (length p) →
        (readied t M p a σ).passed ≡ true →
        ((labelled t M p a σ).checks ≡ (labelled t N p a τ).checks) × ((labelled t M p a σ).passed ≡ (labelled t N p a τ).passed)
    pub keep_fail : (p : List ℕ) (a : ℕ) (σ : S) (τ : S') → R p a σ τ → length p < boats t → a < choices t (length p) →
        (readied t M p a σ).passed ≡ true → (labelled t M p a σ).passed ≡ false → R p (suc a) (labelled t M p a σ).after (labelled t N p a τ).after
    pub keep_pass : (p : List ℕ) (a : ℕ) (σ : S) (τ : S') → R p a σ τ → length p < boats t → a < choices t (length p) →
        (readied t M p a σ).passed ≡ true → (labelled t M p a σ).passed ≡ true → R (p ++ (a ∷ [])) 0 (labelled t M p a σ).after (labelled t N p a τ).after
    pub same_way : (p : List ℕ) (a : ℕ) (σ : S) (τ : S') → R p a σ τ → length p < boats t → choices t (length p) ≤ a →
        SameWay R p (M.unlabel σ p) (N.unlabel τ p)

  module _ (A : Alike) where
    -- ---- one step
    module _ (p : List ℕ) (a : ℕ) (σ : S) (τ : S') (r : R p a σ τ) where
      same_tried : length p < boats t → a < choices t (length p) → (readied t M p a σ).passed ≡ true → (es : List Event) (b : Bool) → (labelled t M p a σ).passed ≡ b →
          SameStep R (tried p a es (labelled t M p a σ).after b) (tried p a es (labelled t N p a τ).after b)
      unfolding tried
      same_tried lp la m es true e = (refl, refl, refl, A.keep_pass p a σ τ r lp la m e)
      same_tried lp la m es false e = (refl, refl, refl, A.keep_fail p a σ τ r lp la m e)

      same_choice : length p < boats t → a < choices t (length p) → (b : Bool) → (readied t M p a σ).passed ≡ b →
          SameStep R (at_choice t M p a (readied t M p a σ) b) (at_choice t N p a (readied t N p a τ) b)
      unfolding at_choice
      same_choice lp la true m =
          rw (← (A.same_label p a σ τ r lp la m).1, (A.same_label p a σ τ r lp la m).0, (A.same_ready p a σ τ r lp la).0)
          (same_tried lp la m _ (labelled t M p a σ).passed refl)
      same_choice lp la false m = ((A.same_ready p a σ τ r lp la).0, refl, refl, A.keep_skip p a σ τ r lp la m)

      same_back : (h : ℕ) (σ' : S) (τ' : S') → (h < length p → R (take h p) (suc (at p h)) σ' τ') → (b : Bool) → ltb h (length p) ≡ b →
          SameStep R (back_to p a h σ' b) (back_to p a h τ' b)
      unfolding back_to
      same_back h σ' τ' k true e = (refl, refl, refl, k (ltb-true _ _ e))
      same_back h σ' τ' k false e = refl

      same_leave : {x : Left S} {y : Left S'} → SameWay R p x y → SameStep R (leave p a x) (leave p a y)
      unfolding leave
      same_leave both_nowhere = refl
      same_leave (both_back {h = h} {σ = σ'} {τ = τ'} k) = same_back h σ' τ' k (ltb h (length p)) refl

      same_boat_lem : length p < boats t → (b : Bool) → ltb a (choices t (length p)) ≡ b → SameStep R (at_boat t M p a σ b) (at_boat t N p a τ b)
      unfolding at_boat
      same_boat_lem lp true e =
          subst (λ (c : Bool). SameStep R (at_boat t M p a σ true) (at_choice t N p a (readied t N p a τ) c)) (A.same_ready p a σ τ r lp (ltb-true _ _ e)).1
          (same_choice lp (ltb-true _ _ e) (readied t M p a σ).passed refl)
      same_boat_lem lp false e = same_leave (A.same_way p a σ τ r lp (ltb-false _ _ e))

      same_sea : (b : Bool) → ltb (length p) (boats t) ≡ b → SameStep R (at_plan t M p a σ b) (at_plan t N p a τ b)
      unfolding at_plan
      same_sea true e = same_boat_lem (ltb-true _ _ e) (ltb a (choices t (length p))) refl
      same_sea false e = refl

      pub same_step : SameStep R (step t M p a σ) (step t N p a τ)
      unfolding step
      same_step = same_sea (ltb (length p) (boats t)) refl

    -- ---- a whole run
    pub same_runs : {p : List ℕ} {a : ℕ} {σ : S} {τ : S'} {es : List Event} {r : Ending} → R p a σ τ → Runs t M p a σ es r → Runs t N p a τ es r
    same_runs {p} {a} {σ} {τ} k (ends {r = r} e) = by (step t N p a τ) refl (subst (λ (x : Step S). SameStep R x (step t N p a τ)) e (same_step p a σ τ k))
      where
        by : (y : Step S') → step t N p a τ ≡ y → SameStep R (stop r) y → Runs t N p a τ [] r
        by (stop s) f w = ends (f ∙ ap stop (sym w))
        by (next fs q b τ') f w = absurd w
    same_runs {p} {a} {σ} {τ} k (goes {r = r} {es = es} {p' = p'} {a' = a'} {σ' = σ'} {fs = fs} e Q) =
        by (step t N p a τ) refl (subst (λ (x : Step S). SameStep R x (step t N p a τ)) e (same_step p a σ τ k)) (λ τ' k'. same_runs k' Q)
      where
        by : (y : Step S') → step t N p a τ ≡ y → SameStep R (next es p' a' σ') y → ((τ' : S') → R p' a' σ' τ' → Runs t N p' a' τ' fs r) → Runs t N p a τ (es ++ fs) r
        by (stop s) f w rec = absurd w
        by (next gs q b τ') f w rec =
            let z : step t N p a τ ≡ next es p' a' τ' = cc in
            goes z (rec τ' w.3)

    -- the searches are the same: from any place between two choices,
    pub same_from : {p : List ℕ} {a : ℕ} {σ : S} {τ : S'} → R p a σ τ → search_from t M p a σ ≡ search_from t N p a τ
    same_from {p} {a} {σ} {τ} k =
        let w = from_runs t N (same_runs k (runs_from t M p a σ)) in
        λ i. record { events = sym w.0 i; ending = sym w.1 i }

    -- and from any place inside a trial
    pub same_inside : (made : ℕ) {p : List ℕ} {a : ℕ} {σ : S} {τ : S'} → R p a σ τ → search_inside t M made p a σ ≡ search_inside t N made p a τ
    unfolding search_inside unmade onward
    same_inside made {p} {a} {σ} {τ} k = by (step t M p a σ) (step t N p a τ) (same_step p a σ τ k)
      where
        by : (x : Step S) (y : Step S') → SameStep R x y → onward (search_from t M) (unmade made x) ≡ onward (search_from t N) (unmade made y)
        by (stop r) (stop s) e = ap (λ (z : Ending). record { events = []; ending = z }) e
        by (stop r) (next fs q b υ) e = absurd e
        by (next es q b υ) (stop s) e = absurd e
        by (next es q b υ) (next fs q' b' υ') e = rw (← e.0, ← e.1, ← e.2) (ap (λ (z : Search). drop made es then z) (same_from e.3))

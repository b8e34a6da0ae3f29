-- A whole run as an inductive family: the shape in which theorems about searches are proved. Each place has exactly one run.
use mathlib.Core.Path.{◌≡◌, refl, sym, ◌∙◌, ap}
use mathlib.Core.Bool.{Bool, true, false}
use mathlib.Core.List.{List, [], ◌∷◌, ◌++◌}
use Prim.Native.Nat.{ℕ, suc, ◌≤◌, ◌<◌}
use native.Mathlib.Omega.{arith}
use lib.Dec.{ltb}
use lib.ListN.{length, get_or, take, get_or-append}
use lib.Seq.{get_or-take, get_or-append_seam}
use borrow.Author.Tests.{ltb-true, ltb-false, lt-ltb, le-ltb}
use Rattle.problem.specs.Tables.{Tables, boats}
use Rattle.events.specs.Events.{Event, trial, Ending, solved, no_plan, astray, Search}
use Rattle.methods.specs.Choices.{choices}
use Rattle.methods.specs.Machine.{Tried, Left, nowhere, back, Steps, Step, stop, next, tried, back_to, leave, at_choice, at_boat, at_plan, step, onward, search_from, search}
use Rattle.methods.proofs.StepsLeft.{search_step, by_steps}

-- the choice that a plan so far has for boat k
abbrev pub at : List ℕ → ℕ → ℕ
at p k = get_or p k 0

pub at_take : (p : List ℕ) (h j : ℕ) → j < h → at (take h p) j ≡ at p j
at_take p h j l = get_or-take h p j 0 l

pub at_snoc : (p : List ℕ) (a j : ℕ) → j < length p → at (p ++ (a ∷ [])) j ≡ at p j
at_snoc p a j l = get_or-append p (a ∷ []) 0 j l

pub at_last : (p : List ℕ) (a : ℕ) → at (p ++ (a ∷ [])) (length p) ≡ a
at_last p a = get_or-append_seam p a [] 0

-- a step that stops does not go on, and a step goes on in one way
pub stop_or_next : {S : Type 0} (x : Step S) {r : Ending} {es : List Event} {p : List ℕ} {a : ℕ} {σ : S} → x ≡ stop r → x ≡ next es p a σ → ⊥
stop_or_next x e f = let z : ◌≡◌ {A = ℕ} 0 1 = cc in omega arith

pub next_same : {S : Type 0} (x : Step S) {es fs : List Event} {p q : List ℕ} {a b : ℕ} {σ τ : S} → x ≡ next es p a σ → x ≡ next fs q b τ →
    (es ≡ fs) × (p ≡ q) × (a ≡ b) × (σ ≡ τ)
next_same x e f = (cc, cc, cc, cc)

pub stop_same : {S : Type 0} (x : Step S) {r s : Ending} → x ≡ stop r → x ≡ stop s → r ≡ s
stop_same x e f = cc

module _ (t : Tables) {S : Type 0} (M : Steps S) where
  -- a whole run from here: its events, and its ending
  pub data Runs : List ℕ → ℕ → S → List Event → Ending → Type 0 where
    ends : {p : List ℕ} {a : ℕ} {σ : S} {r : Ending} → step t M p a σ ≡ stop r → Runs p a σ [] r
    goes : {p : List ℕ} {a : ℕ} {σ : S} {r : Ending} {es : List Event} {p' : List ℕ} {a' : ℕ} {σ' : S} {fs : List Event} →
        step t M p a σ ≡ next es p' a' σ' → Runs p' a' σ' fs r → Runs p a σ (es ++ fs) r

  -- what a boat's choice comes to: the checks before its trial, and the trial
  abbrev pub readied : List ℕ → ℕ → S → Tried S
  readied p a σ = M.ready σ p a

  abbrev pub labelled : List ℕ → ℕ → S → Tried S
  labelled p a σ = M.label (M.ready σ p a).after p a

  abbrev pub trial_events : List ℕ → ℕ → S → List Event
  trial_events p a σ = (readied p a σ).checks ++ trial (length p) a ∷ (labelled p a σ).checks

  -- the rule that a step takes, with what is then known
  pub data View (p : List ℕ) (a : ℕ) (σ : S) : Type 0 where
    at_end_lem : boats t ≤ length p → step t M p a σ ≡ stop (solved p) → View p a σ
    at_out : length p < boats t → choices t (length p) ≤ a → M.unlabel σ p ≡ nowhere → step t M p a σ ≡ stop no_plan → View p a σ
    at_back : length p < boats t → choices t (length p) ≤ a → (h : ℕ) (τ : S) → M.unlabel σ p ≡ back h τ → h < length p →
        step t M p a σ ≡ next [] (take h p) (suc (at p h)) τ → View p a σ
    at_astray : length p < boats t → choices t (length p) ≤ a → (h : ℕ) (τ : S) → M.unlabel σ p ≡ back h τ → length p ≤ h →
        step t M p a σ ≡ stop astray → View p a σ
    at_skip : length p < boats t → a < choices t (length p) → (readied p a σ).passed ≡ false →
        step t M p a σ ≡ next (readied p a σ).checks p (suc a) (readied p a σ).after → View p a σ
    at_fail : length p < boats t → a < choices t (length p) → (readied p a σ).passed ≡ true → (labelled p a σ).passed ≡ false →
        step t M p a σ ≡ next (trial_events p a σ) p (suc a) (labelled p a σ).after → View p a σ
    at_pass : length p < boats t → a < choices t (length p) → (readied p a σ).passed ≡ true → (labelled p a σ).passed ≡ true →
        step t M p a σ ≡ next (trial_events p a σ) (p ++ (a ∷ [])) 0 (labelled p a σ).after → View p a σ

  -- ---- each rule's step, from what it asks
  module _ (p : List ℕ) (a : ℕ) (σ : S) where
    pub step_end : boats t ≤ length p → step t M p a σ ≡ stop (solved p)
    unfolding step at_plan
    step_end h = rw (le-ltb (length p) (boats t) h, at_plan)

    at_boat_lem : length p < boats t → (b : Bool) → ltb a (choices t (length p)) ≡ b → step t M p a σ ≡ at_boat t M p a σ b
    unfolding step at_plan
    at_boat_lem h b e = ap (at_plan t M p a σ) (lt-ltb (length p) (boats t) h) ∙ ap (at_boat t M p a σ) e

    at_choice_lem : length p < boats t → a < choices t (length p) → (b : Bool) → (readied p a σ).passed ≡ b → step t M p a σ ≡ at_choice t M p a (readied p a σ) b
    unfolding at_boat
    at_choice_lem h l b e = at_boat_lem h true (lt-ltb a (choices t (length p)) l) ∙ ap (at_choice t M p a (readied p a σ)) e

    at_trial : length p < boats t → a < choices t (length p) → (readied p a σ).passed ≡ true → (b : Bool) → (labelled p a σ).passed ≡ b →
        step t M p a σ ≡ tried p a (trial_events p a σ) (labelled p a σ).after b
    unfolding at_choice
    at_trial h l e b f = at_choice_lem h l true e ∙ ap (tried p a (trial_events p a σ) (labelled p a σ).after) f

    at_left : length p < boats t → choices t (length p) ≤ a → (x : Left S) → M.unlabel σ p ≡ x → step t M p a σ ≡ leave p a x
    unfolding at_boat
    at_left h l x e = at_boat_lem h false (le-ltb a (choices t (length p)) l) ∙ ap (leave p a) e

    at_way : length p < boats t → choices t (length p) ≤ a → (h : ℕ) (τ : S) → M.unlabel σ p ≡ back h τ → (b : Bool) → ltb h (length p) ≡ b →
        step t M p a σ ≡ back_to p a h τ b
    unfolding leave
    at_way lp l h τ e b f = at_left lp l (back h τ) e ∙ ap (back_to p a h τ) f

    pub step_skip : length p < boats t → a < choices t (length p) → (readied p a σ).passed ≡ false →
        step t M p a σ ≡ next (readied p a σ).checks p (suc a) (readied p a σ).after
    unfolding at_choice
    step_skip h l e = at_choice_lem h l false e

    pub step_fail : length p < boats t → a < choices t (length p) → (readied p a σ).passed ≡ true → (labelled p a σ).passed ≡ false →
        step t M p a σ ≡ next (trial_events p a σ) p (suc a) (labelled p a σ).after
    unfolding tried
    step_fail h l e f = at_trial h l e false f

    pub step_pass : length p < boats t → a < choices t (length p) → (readied p a σ).passed ≡ true → (labelled p a σ).passed ≡ true →
        step t M p a σ ≡ next (trial_events p a σ) (p ++ (a ∷ [])) 0 (labelled p a σ).after
    unfolding tried
    step_pass h l e f = at_trial h l e true f

    pub step_out : length p < boats t → choices t (length p) ≤ a → M.unlabel σ p ≡ nowhere → step t M p a σ ≡ stop no_plan
    unfolding leave
    step_out h l e = at_left h l nowhere e

    pub step_back : length p < boats t → choices t (length p) ≤ a → (h : ℕ) (τ : S) → M.unlabel σ p ≡ back h τ → h < length p →
        step t M p a σ ≡ next [] (take h p) (suc (at p h)) τ
    unfolding back_to
    step_back lp l h τ e b = at_way lp l h τ e true (lt-ltb h (length p) b)

    step_astray : length p < boats t → choices t (length p) ≤ a → (h : ℕ) (τ : S) → M.unlabel σ p ≡ back h τ → length p ≤ h → step t M p a σ ≡ stop astray
    unfolding back_to
    step_astray lp l h τ e b = at_way lp l h τ e false (le-ltb h (length p) b)

    -- ---- one of the rules applies
    view_trial : length p < boats t → a < choices t (length p) → (readied p a σ).passed ≡ true → (b : Bool) → (labelled p a σ).passed ≡ b → View p a σ
    view_trial h l e true f = at_pass h l e f (step_pass h l e f)
    view_trial h l e false f = at_fail h l e f (step_fail h l e f)

    view_choice : length p < boats t → a < choices t (length p) → (b : Bool) → (readied p a σ).passed ≡ b → View p a σ
    view_choice h l true e = view_trial h l e _ refl
    view_choice h l false e = at_skip h l e (step_skip h l e)

    view_way : length p < boats t → choices t (length p) ≤ a → (h : ℕ) (τ : S) → M.unlabel σ p ≡ back h τ → (b : Bool) → ltb h (length p) ≡ b → View p a σ
    view_way lp l h τ e true f = at_back lp l h τ e (ltb-true _ _ f) (step_back lp l h τ e (ltb-true _ _ f))
    view_way lp l h τ e false f = at_astray lp l h τ e (ltb-false _ _ f) (step_astray lp l h τ e (ltb-false _ _ f))

    view_left : length p < boats t → choices t (length p) ≤ a → (x : Left S) → M.unlabel σ p ≡ x → View p a σ
    view_left h l nowhere e = at_out h l e (step_out h l e)
    view_left h l (back j τ) e = view_way h l j τ e _ refl

    view_boat : length p < boats t → (b : Bool) → ltb a (choices t (length p)) ≡ b → View p a σ
    view_boat h true e = view_choice h (ltb-true _ _ e) _ refl
    view_boat h false e = view_left h (ltb-false _ _ e) _ refl

    view_sea : (b : Bool) → ltb (length p) (boats t) ≡ b → View p a σ
    view_sea true e = view_boat (ltb-true _ _ e) _ refl
    view_sea false e = at_end_lem (ltb-false _ _ e) (step_end (ltb-false _ _ e))

    pub view : View p a σ
    view = view_sea _ refl

  -- ---- what a run that is there does next
  pub at_next : {p : List ℕ} {a : ℕ} {σ : S} {es : List Event} {r : Ending} {es₁ : List Event} {p₁ : List ℕ} {a₁ : ℕ} {σ₁ : S} →
      Runs p a σ es r → step t M p a σ ≡ next es₁ p₁ a₁ σ₁ → (fs : List Event) × (es ≡ es₁ ++ fs) × Runs p₁ a₁ σ₁ fs r
  at_next {p} {a} {σ} (ends e) f = absurd (stop_or_next (step t M p a σ) e f)
  at_next {p} {a} {σ} {es₁ = es₁} {p₁ = p₁} {a₁ = a₁} {σ₁ = σ₁} (goes {fs = fs} e R) f =
      let z = next_same (step t M p a σ) f e in
      (fs, ap (λ (l : List Event). l ++ fs) (sym z.0), rw (z.1, z.2, z.3) R)

  pub at_stop : {p : List ℕ} {a : ℕ} {σ : S} {es : List Event} {r s : Ending} → Runs p a σ es r → step t M p a σ ≡ stop s → (es ≡ []) × (r ≡ s)
  at_stop {p} {a} {σ} (ends e) f = (refl, stop_same (step t M p a σ) e f)
  at_stop {p} {a} {σ} (goes e R) f = absurd (stop_or_next (step t M p a σ) f e)

  pub unique : {p : List ℕ} {a : ℕ} {σ : S} {es fs : List Event} {r s : Ending} → Runs p a σ es r → Runs p a σ fs s → (es ≡ fs) × (r ≡ s)
  unique (ends e) R = let k = at_stop R e in (sym k.0, sym k.1)
  unique (goes {es = es} e Q) R =
      let k = at_next R e in
      let u = unique Q k.2 in
      (ap (λ (l : List Event). es ++ l) u.0 ∙ sym k.1, u.1)

  -- ---- the search from a place is its run
  Is : List ℕ → ℕ → S → Search → Type 0
  Is p a σ s = Runs p a σ s.events s.ending

  pub runs_from : (p : List ℕ) (a : ℕ) (σ : S) → Runs p a σ (search_from t M p a σ).events (search_from t M p a σ).ending
  unfolding Is onward
  runs_from = by_steps t M (λ p a σ. Is p a σ (search_from t M p a σ)) (λ p a σ ih. rw (search_step t M p a σ) (by p a σ (step t M p a σ) refl ih))
    where
      by : (p : List ℕ) (a : ℕ) (σ : S) (x : Step S) → step t M p a σ ≡ x →
          ((es : List Event) (q : List ℕ) (b : ℕ) (τ : S) → step t M p a σ ≡ next es q b τ → Is q b τ (search_from t M q b τ)) → Is p a σ (onward (search_from t M) x)
      by p a σ (stop r) e ih = ends e
      by p a σ (next es q b τ) e ih = goes e (ih es q b τ e)

  pub runs : Runs [] 0 M.start (search t M).events (search t M).ending
  unfolding search
  runs = runs_from [] 0 M.start

  -- and what runs is the search
  pub from_runs : {p : List ℕ} {a : ℕ} {σ : S} {es : List Event} {r : Ending} → Runs p a σ es r → ((search_from t M p a σ).events ≡ es) × ((search_from t M p a σ).ending ≡ r)
  from_runs {p} {a} {σ} R = unique (runs_from p a σ) R

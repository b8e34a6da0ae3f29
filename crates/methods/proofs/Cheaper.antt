-- Demand 3, once: a method that follows a forward move and whose ways back are justified never costs more than the stepping method.
use mathlib.Core.Path.{◌≡◌, refl, sym, ◌∙◌, ap}
use mathlib.Core.Bool.{true, false}
use mathlib.Core.List.{List, [], ◌∷◌, ◌++◌, append_assoc}
use Prim.Native.Nat.{ℕ, suc, ◌+◌, ◌≤◌, ◌<◌, zero-le}
use native.Mathlib.Omega.{arith}
use native.Mathlib.Decide.{ℕ_discrete}
use native.Mathlib.Nat.{le_of_lt}
use lib.ListN.{length, take, length-append}
use lib.Seq.{take-append-le, length-take-le, take-take}
use Rattle.problem.specs.Tables.{Tables, boats}
use Rattle.events.specs.Events.{Event, trial, Ending, solved, no_plan, astray, trials_of, checks_of, trials, checks}
use Rattle.events.proofs.Counting.{trials_append, checks_append}
use Rattle.methods.specs.Choices.{choices}
use Rattle.methods.specs.Machine.{back, Steps, Step, stop, next, step}
use Rattle.methods.specs.Moves.{Forward, stepping}
use Rattle.methods.proofs.Runs.{at, at_take, at_snoc, stop_or_next, next_same, stop_same, Runs, ends, goes, readied, labelled, View, at_end_lem, at_out, at_back, at_astray, at_skip, at_fail, at_pass, view, step_end, step_skip, step_fail, step_pass, at_next, at_stop}
use Rattle.methods.proofs.Standing.{NoneStands, Meaning, Fit, fit_take, fit_snoc, fit_whole}
use Rattle.methods.proofs.Sound.{Dead, Honest, Justified, Holds, keeps, sound, verdict_pass}
use Rattle.methods.proofs.Steps.{no_way, one_way, steps_justified}

trial_trials : (i a : ℕ) (rs es fs : List Event) → trials rs ≡ 0 → trials es ≤ trials fs → trials (rs ++ trial i a ∷ es) ≤ trials (trial i a ∷ fs)
unfolding trials_of
trial_trials i a rs es fs z h = rw (trials_append rs (trial i a ∷ es)) (omega arith)

trial_checks : (i a : ℕ) (rs es fs : List Event) (x y : ℕ) → checks rs + checks es + x ≤ checks fs + y → checks (rs ++ trial i a ∷ es) + x ≤ checks (trial i a ∷ fs) + y
unfolding checks_of
trial_checks i a rs es fs x y h = rw (checks_append rs (trial i a ∷ es)) (omega arith)

none_then : (t : Tables) (s : Ending) → NoneStands t → Meaning t s → no_plan ≡ s
none_then t (solved q) N m = absurd (N q m.stands)
none_then t no_plan N m = refl
none_then t astray N m = absurd m

module _ (t : Tables) (F : Forward (Unit {0})) (H : Honest t F) where
  -- a run of the stepping method comes by here, and goes on to the same ending
  abbrev pub Passes : List ℕ → ℕ → List Event → Ending → Type 0
  Passes p a es r = (fs : List Event) × (gs : List Event) × (es ≡ fs ++ gs) × Runs t (stepping F) p a tt gs r

  passes_later : (p : List ℕ) (a : ℕ) (es fs : List Event) (r : Ending) → Passes p a fs r → Passes p a (es ++ fs) r
  passes_later p a es fs r P = (es ++ P.0, P.1, ap (λ (l : List Event). es ++ l) P.2 ∙ sym (append_assoc es P.0 P.1), P.3)

  dead_snoc : (p : List ℕ) (a h : ℕ) → h < length p → Dead t p h → Dead t (p ++ (a ∷ [])) h
  dead_snoc p a h lt D q law agree = D q law (λ j lj. agree j lj ∙ at_snoc p a j (omega arith))

  dead_take : (p : List ℕ) (k h : ℕ) → h < k → Dead t p h → Dead t (take k p) h
  dead_take p k h lt D q law agree = D q law (λ j lj. agree j lj ∙ at_take p k j (omega arith))

  -- THE KEY: started inside a subtree whose top extends to no plan that stands, the stepping method comes back to the top's next choice
  pub returns : {p : List ℕ} {a : ℕ} {σ : Unit {0}} {es : List Event} {r : Ending} → Runs t (stepping F) p a σ es r → Fit t p →
      (h : ℕ) → h < length p → Dead t p h → Passes (take h p) (suc (at p h)) es r
  returns {p} {a} {σ} (ends {r = r} e) f h lt D = by_view (view t (stepping F) p a σ)
    where
      x : Step (Unit {0})
      x = step t (stepping F) p a σ

      by_view : View t (stepping F) p a σ → Passes (take h p) (suc (at p h)) [] r
      by_view (at_end_lem k s) = absurd (D p (fit_whole t p f k) (λ j lj. refl))
      by_view (at_out k l m s) = let z = no_way (length p) (λ g. F.put_back g σ) m in absurd (omega arith)
      by_view (at_back k l j τ m b s) = absurd (stop_or_next x e s)
      by_view (at_astray k l j τ m b s) = let z = one_way (length p) (λ g. F.put_back g σ) j τ m in absurd (omega arith)
      by_view (at_skip k l m s) = absurd (stop_or_next x e s)
      by_view (at_fail k l m u s) = absurd (stop_or_next x e s)
      by_view (at_pass k l m u s) = absurd (stop_or_next x e s)
  returns {p} {a} {σ} (goes {r = r} {es = es} {p' = p'} {a' = a'} {σ' = σ'} {fs = fs} e R) f h lt D =
      passes_later (take h p) (suc (at p h)) es fs r (by_view (view t (stepping F) p a σ) (λ f₁ h₁ lt₁ D₁. returns R f₁ h₁ lt₁ D₁))
    where
      x : Step (Unit {0})
      x = step t (stepping F) p a σ

      up : (j : ℕ) → p' ≡ take j p → a' ≡ suc (at p j) → length p ≡ suc j →
          (Fit t p' → (h : ℕ) → h < length p' → Dead t p' h → Passes (take h p') (suc (at p' h)) fs r) → Dec (j ≡ h) → Passes (take h p) (suc (at p h)) fs r
      up j zp za y rec (yes eq) = ([], fs, refl, rw (← eq) (rw (zp, za) at R))
      up j zp za y rec (no ne) =
          let lh : h < j = omega arith in
          let lj : j < length p = omega arith in
          let u : Passes (take h (take j p)) (suc (at (take j p) h)) fs r =
          rw zp at (rec (rw zp (fit_take t p j f lj)) h (rw (zp, length-take-le j p (le_of_lt lj)) lh) (rw zp (dead_take p j h lh D))) in
          rw (take-take h j p (le_of_lt lh), at_take p j h lh) at u

      by_view : View t (stepping F) p a σ →
          (Fit t p' → (h : ℕ) → h < length p' → Dead t p' h → Passes (take h p') (suc (at p' h)) fs r) → Passes (take h p) (suc (at p h)) fs r
      by_view (at_end_lem k s) rec = absurd (stop_or_next x s e)
      by_view (at_out k l m s) rec = absurd (stop_or_next x s e)
      by_view (at_back k l j τ m b s) rec =
          let z = next_same x e s in
          up j z.1 z.2 (one_way (length p) (λ g. F.put_back g σ) j τ m) rec (ℕ_discrete j h)
      by_view (at_astray k l j τ m b s) rec = absurd (stop_or_next x s e)
      by_view (at_skip k l m s) rec = let z = next_same x e s in rw z.1 at (rec (rw z.1 f) h (rw z.1 lt) (rw z.1 D))
      by_view (at_fail k l m u s) rec = let z = next_same x e s in rw z.1 at (rec (rw z.1 f) h (rw z.1 lt) (rw z.1 D))
      by_view (at_pass k l m u s) rec =
          let z = next_same x e s in
          let g : Fit t (p ++ (a ∷ [])) = fit_snoc t p a f k l (H.passed p a f k l m (verdict_pass t F (F.trial tt p a).verdict u)) in
          let y : Passes (take h (p ++ (a ∷ []))) (suc (at (p ++ (a ∷ [])) h)) fs r =
          rw z.1 at (rec (rw z.1 g) h (rw (z.1, length-append) (omega arith)) (rw z.1 (dead_snoc p a h lt D))) in
          rw (take-append-le h p (a ∷ []) (le_of_lt lt), at_snoc p a h lt) at y

  module _ {S : Type 0} (M : Steps S) (Inv : List ℕ → ℕ → S → Type 0) (J : Justified t F M Inv) where
    -- The method makes no more checks than the forward move's own, all told: a check that it does not make now may wait, and is paid for already.
    -- `Pot` bounds what waits.
    pub record Fewer (Pot : List ℕ → ℕ → S → ℕ) : Type 0 where
      pub no_trials : (p : List ℕ) (a : ℕ) (σ : S) → trials (readied t M p a σ).checks ≡ 0
      pub few_trials : (p : List ℕ) (a : ℕ) (σ : S) → trials (labelled t M p a σ).checks ≤ trials (F.trial tt p a).checks
      pub few_skip : (p : List ℕ) (a : ℕ) (σ : S) → Fit t p → Inv p a σ → length p < boats t → a < choices t (length p) → (readied t M p a σ).passed ≡ false →
          checks (readied t M p a σ).checks + Pot p (suc a) (readied t M p a σ).after ≤ Pot p a σ
      pub few_fail : (p : List ℕ) (a : ℕ) (σ : S) → Fit t p → Inv p a σ → length p < boats t → a < choices t (length p) → (readied t M p a σ).passed ≡ true →
          (labelled t M p a σ).passed ≡ false →
          checks (readied t M p a σ).checks + checks (labelled t M p a σ).checks + Pot p (suc a) (labelled t M p a σ).after
          ≤ checks (F.trial tt p a).checks + Pot p a σ
      pub few_pass : (p : List ℕ) (a : ℕ) (σ : S) → Fit t p → Inv p a σ → length p < boats t → a < choices t (length p) → (readied t M p a σ).passed ≡ true →
          (labelled t M p a σ).passed ≡ true →
          checks (readied t M p a σ).checks + checks (labelled t M p a σ).checks + Pot (p ++ (a ∷ [])) 0 (labelled t M p a σ).after
          ≤ checks (F.trial tt p a).checks + Pot p a σ
      pub few_back : (p : List ℕ) (a : ℕ) (σ : S) → Fit t p → Inv p a σ → length p < boats t → choices t (length p) ≤ a → (h : ℕ) (τ : S) → M.unlabel σ p ≡ back h τ →
          Pot (take h p) (suc (at p h)) τ ≤ Pot p a σ

    module _ (Pot : List ℕ → ℕ → S → ℕ) (few : Fewer Pot) where
      -- the two runs meet again after the method's next step
      Meets : ℕ → List Event → List ℕ → ℕ → S → List Event → Ending → Type 0
      Meets P es p a σ fs s =
          (gs : List Event) × Runs t (stepping F) p a tt gs s × (trials es + trials gs ≤ trials fs) × (checks es + Pot p a σ + checks gs ≤ checks fs + P)

      meet : (P : ℕ) (fs₁ : List Event) {es es₁ fs gs : List Event} {p₁ p' : List ℕ} {a₁ a' : ℕ} {σ₁ σ' : S} {s : Ending} →
          (es ≡ es₁) × (p' ≡ p₁) × (a' ≡ a₁) × (σ' ≡ σ₁) → fs ≡ fs₁ ++ gs →
          trials es₁ ≤ trials fs₁ → checks es₁ + Pot p₁ a₁ σ₁ ≤ checks fs₁ + P → Runs t (stepping F) p₁ a₁ tt gs s → Meets P es p' a' σ' fs s
      unfolding Meets
      meet P fs₁ {gs = gs} z fe u c R =
          (gs, rw (z.1, z.2) R, rw (z.0, fe, trials_append fs₁ gs) (omega arith), rw (z.0, z.1, z.2, z.3, fe, checks_append fs₁ gs) (omega arith))

      meets : (p : List ℕ) (a : ℕ) (σ : S) → Holds t F H M Inv J p a σ → (es : List Event) (p' : List ℕ) (a' : ℕ) (σ' : S) →
          step t M p a σ ≡ next es p' a' σ' → View t M p a σ → (fs : List Event) (s : Ending) → Runs t (stepping F) p a tt fs s →
          Meets (Pot p a σ) es p' a' σ' fs s
      meets p a σ K es p' a' σ' e (at_end_lem h v) fs s R = absurd (stop_or_next (step t M p a σ) v e)
      meets p a σ K es p' a' σ' e (at_out h l m v) fs s R = absurd (stop_or_next (step t M p a σ) v e)
      meets p a σ K es p' a' σ' e (at_back h l j τ m b v) fs s R =
          let D = (J.jumps p a σ K.fit K.behind K.inv h l j τ m).1 in
          let y = returns R K.fit j b D in
          meet (Pot p a σ) y.0 (next_same (step t M p a σ) e v) y.2 (unfold trials_of in zero-le)
          (unfold checks_of in (let w = few.few_back p a σ K.fit K.inv h l j τ m in omega arith)) y.3
      meets p a σ K es p' a' σ' e (at_astray h l j τ m b v) fs s R = absurd (stop_or_next (step t M p a σ) v e)
      meets p a σ K es p' a' σ' e (at_skip h l m v) fs s R =
          let y = at_next t (stepping F) R (step_skip t (stepping F) p a tt h l (sym (J.same_live p a σ K.inv h l) ∙ m)) in
          meet (Pot p a σ) [] (next_same (step t M p a σ) e v) y.1 (rw (few.no_trials p a σ) zero-le)
          (unfold checks_of in (let w = few.few_skip p a σ K.fit K.inv h l m in omega arith)) y.2
      meets p a σ K es p' a' σ' e (at_fail h l m u v) fs s R =
          let y = at_next t (stepping F) R
          (step_fail t (stepping F) p a tt h l (sym (J.same_live p a σ K.inv h l) ∙ m) (sym (J.same_pass p a σ K.inv h l m) ∙ u)) in
          meet (Pot p a σ) (trial (length p) a ∷ (F.trial tt p a).checks) (next_same (step t M p a σ) e v) y.1
          (trial_trials (length p) a _ _ _ (few.no_trials p a σ) (few.few_trials p a σ))
          (trial_checks (length p) a _ _ _ _ _ (few.few_fail p a σ K.fit K.inv h l m u)) y.2
      meets p a σ K es p' a' σ' e (at_pass h l m u v) fs s R =
          let y = at_next t (stepping F) R
          (step_pass t (stepping F) p a tt h l (sym (J.same_live p a σ K.inv h l) ∙ m) (sym (J.same_pass p a σ K.inv h l m) ∙ u)) in
          meet (Pot p a σ) (trial (length p) a ∷ (F.trial tt p a).checks) (next_same (step t M p a σ) e v) y.1
          (trial_trials (length p) a _ _ _ (few.no_trials p a σ) (few.few_trials p a σ))
          (trial_checks (length p) a _ _ _ _ _ (few.few_pass p a σ K.fit K.inv h l m u)) y.2

      -- where the method stops, the stepping method comes to the same ending
      same_end : (p : List ℕ) (a : ℕ) (σ : S) → Holds t F H M Inv J p a σ → (r : Ending) → step t M p a σ ≡ stop r → View t M p a σ →
          (fs : List Event) (s : Ending) → Runs t (stepping F) p a tt fs s → r ≡ s
      same_end p a σ K r e (at_end_lem h v) fs s R = stop_same (step t M p a σ) e v ∙ sym (at_stop t (stepping F) R (step_end t (stepping F) p a tt h)).1
      same_end p a σ K r e (at_out h l m v) fs s R =
          stop_same (step t M p a σ) e v
          ∙ none_then t s (J.out p a σ K.fit K.behind K.inv h l m)
          (sound t F H (stepping F) (λ p a σ. Unit {0}) (steps_justified t F H) R (record { fit = K.fit; behind = K.behind; inv = tt }))
      same_end p a σ K r e (at_back h l j τ m b v) fs s R = absurd (stop_or_next (step t M p a σ) e v)
      same_end p a σ K r e (at_astray h l j τ m b v) fs s R = absurd (omega (arith, (J.jumps p a σ K.fit K.behind K.inv h l j τ m).0))
      same_end p a σ K r e (at_skip h l m v) fs s R = absurd (stop_or_next (step t M p a σ) e v)
      same_end p a σ K r e (at_fail h l m u v) fs s R = absurd (stop_or_next (step t M p a σ) e v)
      same_end p a σ K r e (at_pass h l m u v) fs s R = absurd (stop_or_next (step t M p a σ) e v)

      -- DEMAND 3: the same ending, no more trials, no more checks
      pub cheaper : {p : List ℕ} {a : ℕ} {σ : S} {es fs : List Event} {r s : Ending} → Runs t M p a σ es r → Holds t F H M Inv J p a σ →
          Runs t (stepping F) p a tt fs s → (r ≡ s) × (trials es ≤ trials fs) × (checks es ≤ checks fs + Pot p a σ)
      unfolding Meets
      cheaper {p} {a} {σ} {fs = fs} {s = s} (ends {r = r} e) K R =
          (same_end p a σ K r e (view t M p a σ) fs s R, unfold trials_of in zero-le, unfold checks_of in zero-le)
      cheaper {p} {a} {σ} {fs = gs} {s = s} (goes {r = r} {es = es} {p' = p'} {a' = a'} {σ' = σ'} {fs = fs} e Q) K R =
          let y = meets p a σ K es p' a' σ' e (view t M p a σ) gs s R in
          let w = cheaper Q (keeps t F H M Inv J p a σ K e (view t M p a σ)) y.1 in
          (w.0, rw (trials_append es fs) (omega arith), rw (checks_append es fs) (omega arith))

    -- a method with nothing that waits
    pub record Plain : Type 0 where
      pub none_wait : (p : List ℕ) (a : ℕ) (σ : S) → (readied t M p a σ).checks ≡ []
      pub few_trials : (p : List ℕ) (a : ℕ) (σ : S) → trials (labelled t M p a σ).checks ≤ trials (F.trial tt p a).checks
      pub few_checks : (p : List ℕ) (a : ℕ) (σ : S) → Inv p a σ → length p < boats t → a < choices t (length p) → (readied t M p a σ).passed ≡ true →
          checks (labelled t M p a σ).checks ≤ checks (F.trial tt p a).checks

    plain_fewer : Plain → Fewer (λ p a σ. 0)
    plain_fewer P =
        record {
          no_trials = λ p a σ. rw (P.none_wait p a σ) (unfold trials_of in refl);
          few_trials = P.few_trials;
          few_skip = λ p a σ f i h l m. rw (P.none_wait p a σ) (unfold checks_of in zero-le);
          few_fail = λ p a σ f i h l m u. rw (P.none_wait p a σ) (let w = P.few_checks p a σ i h l m in unfold checks_of in (omega arith));
          few_pass = λ p a σ f i h l m u. rw (P.none_wait p a σ) (let w = P.few_checks p a σ i h l m in unfold checks_of in (omega arith));
          few_back = λ p a σ f i h l j τ e. zero-le;
        }

    pub plain_cheaper : Plain → {p : List ℕ} {a : ℕ} {σ : S} {es fs : List Event} {r s : Ending} → Runs t M p a σ es r → Holds t F H M Inv J p a σ →
        Runs t (stepping F) p a tt fs s → (r ≡ s) × (trials es ≤ trials fs) × (checks es ≤ checks fs)
    plain_cheaper P Q K R =
        let w = cheaper (λ p a σ. 0) (plain_fewer P) Q K R in
        (w.0, w.1, omega arith)

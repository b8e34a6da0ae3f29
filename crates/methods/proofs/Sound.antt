-- Demand 2, once for all methods: a solved search has the foremost plan, 'no plan' means that none stands, and no search goes astray.
use mathlib.Core.Path.{◌≡◌, refl, sym, ◌∙◌}
use mathlib.Core.Bool.{true, false}
use mathlib.Core.List.{List, [], ◌∷◌, ◌++◌}
use Prim.Native.Nat.{ℕ, suc, ◌≤◌, ◌<◌}
use native.Mathlib.Omega.{arith}
use native.Mathlib.Decide.{dec_lt, ℕ_discrete}
use native.Mathlib.Nat.{le_of_lt}
use lib.Dec.{T}
use lib.ListN.{length, take, length-append}
use lib.Seq.{length-take-le}
use Rattle.problem.specs.Tables.{Tables, boats}
use Rattle.events.specs.Events.{Event, Ending, solved, no_plan}
use Rattle.methods.specs.Choices.{choices, may_stand}
use Rattle.methods.specs.Machine.{nowhere, back, Steps, stop, next, step}
use Rattle.methods.specs.Moves.{Boats, Verdict, pass, fail, passes, Forward}
use Rattle.methods.proofs.Runs.{at, at_take, at_snoc, at_last, stop_or_next, next_same, stop_same, Runs, ends, goes, readied, labelled, View, at_end_lem, at_out, at_back, at_astray, at_skip, at_fail, at_pass, view}
use Rattle.methods.proofs.Standing.{Stands, NoneStands, Meaning, Fit, fit_start, fit_take, fit_snoc, fit_whole}

not_lt : (a b : ℕ) → (b < a → ⊥) → a ≤ b
not_lt a b f = by_case (dec_lt b a)
  where
    by_case : Dec (b < a) → a ≤ b
    by_case (yes y) = absurd (f y)
    by_case (no ny) = omega arith

module _ (t : Tables) where
  -- no lawful plan that agrees with p on the boats of S has slot b at boat k
  abbrev pub Bars : (ℕ → Type 0) → List ℕ → ℕ → ℕ → Type 0
  Bars S p k b = (q : List ℕ) → Stands t q → ((j : ℕ) → S j → at q j ≡ at p j) → at q k ≡ b → ⊥

  -- no lawful plan agrees with p on the boats 0 to h
  abbrev pub Dead : List ℕ → ℕ → Type 0
  Dead p h = (q : List ℕ) → Stands t q → ((j : ℕ) → j < suc h → at q j ≡ at p j) → ⊥

  -- each slot that was given up, at a placed boat or at the boat at hand, is barred by the boats below
  pub record Behind (p : List ℕ) (a : ℕ) : Type 0 where
    pub before : (k : ℕ) → k < length p → (b : ℕ) → b < at p k → Bars (λ j. j < k) p k b
    pub here : (b : ℕ) → b < a → Bars (λ j. j < length p) p (length p) b

  -- what is barred under one plan is barred under another with the same slots in S
  pub bars_along : (S : ℕ → Type 0) (p r : List ℕ) (k b : ℕ) → ((j : ℕ) → S j → at r j ≡ at p j) → Bars S p k b → Bars S r k b
  bars_along S p r k b same B q law agree e = B q law (λ j s. agree j s ∙ same j s) e

  -- fewer boats bar: more boats bar too
  pub bars_more : (S R : ℕ → Type 0) (p : List ℕ) (k b : ℕ) → ((j : ℕ) → S j → R j) → Bars S p k b → Bars R p k b
  bars_more S R p k b more B q law agree e = B q law (λ j s. agree j (more j s)) e

  pub behind_start : Behind [] 0
  behind_start = record { before = λ k lt. absurd (omega arith); here = λ b lt. absurd (omega arith) }

  pub behind_slot : (p : List ℕ) (a : ℕ) → Behind p a → Bars (λ j. j < length p) p (length p) a → Behind p (suc a)
  behind_slot p a B x = record { before = B.before; here = λ b lt. by_case b lt (ℕ_discrete b a) }
    where
      by_case : (b : ℕ) → b < suc a → Dec (b ≡ a) → Bars (λ j. j < length p) p (length p) b
      by_case b lt (yes e) = rw e x
      by_case b lt (no ne) = B.here b (omega arith)

  pub behind_snoc : (p : List ℕ) (a : ℕ) → Behind p a → Behind (p ++ (a ∷ [])) 0
  behind_snoc p a B = record { before = λ k lt b lb. by_case k lt b lb (dec_lt k (length p)); here = λ b lt. absurd (omega arith) }
    where
      by_case : (k : ℕ) → k < length (p ++ (a ∷ [])) → (b : ℕ) → b < at (p ++ (a ∷ [])) k → Dec (k < length p) →
          Bars (λ j. j < k) (p ++ (a ∷ [])) k b
      by_case k lt b lb (yes y) =
          bars_along (λ j. j < k) p (p ++ (a ∷ [])) k b (λ j lj. at_snoc p a j (omega arith)) (B.before k y b (rw (at_snoc p a k y) at lb))
      by_case k lt b lb (no ny) =
          let e : length p ≡ k = omega (arith, simp length-append at lt) in
          let lb' : b < at (p ++ (a ∷ [])) (length p) = rw e lb in
          let lb'' : b < a = rw (at_last p a) at lb' in
          rw (← e) (bars_along (λ j. j < length p) p (p ++ (a ∷ [])) (length p) b (at_snoc p a) (B.here b lb''))

  pub behind_back : (p : List ℕ) (a h : ℕ) → Behind p a → h < length p → Dead p h → Behind (take h p) (suc (at p h))
  behind_back p a h B lt D =
      record {
        before = λ k lk b lb.
            let lk' : k < h = rw e at lk in
            bars_along (λ j. j < k) p (take h p) k b (λ j lj. at_take p h j (omega arith)) (B.before k (omega arith) b (rw (at_take p h k lk') at lb));
        here = λ b lb. rw e (bars_along (λ j. j < h) p (take h p) h b (at_take p h) (by_case b lb (ℕ_discrete b (at p h))));
      }
    where
      e : length (take h p) ≡ h
      e = length-take-le h p (le_of_lt lt)

      with_h : (q : List ℕ) → ((j : ℕ) → j < h → at q j ≡ at p j) → at q h ≡ at p h → (j : ℕ) → j < suc h → Dec (j ≡ h) → at q j ≡ at p j
      with_h q agree eh j lj (yes y) = rw y eh
      with_h q agree eh j lj (no ny) = agree j (omega arith)

      by_case : (b : ℕ) → b < suc (at p h) → Dec (b ≡ at p h) → Bars (λ j. j < h) p h b
      by_case b lb (yes y) = λ q law agree eb. D q law (λ j lj. with_h q agree (eb ∙ y) j lj (ℕ_discrete j h))
      by_case b lb (no ny) = B.before h lt b (omega arith)

-- A forward move is honest: a slot that it passes over or fails is barred, and a plan that it passed boat by boat is lawful.
module _ (t : Tables) (F : Forward (Unit {0})) where
  pub record Honest : Type 0 where
    pub blame_below : (p : List ℕ) (j : ℕ) → Fit t p → T (F.blamers tt p j) → j < length p
    pub struck : (p : List ℕ) (a : ℕ) → Fit t p → length p < boats t → a < choices t (length p) → F.live tt p a ≡ false →
        Bars t (λ j. T (F.blamers tt p j)) p (length p) a
    pub fail_below : (p : List ℕ) (a : ℕ) (s : Boats) → Fit t p → length p < boats t → a < choices t (length p) → F.live tt p a ≡ true → (F.trial tt p a).verdict ≡ fail s →
        (j : ℕ) → T (s j) → j < length p
    pub failed : (p : List ℕ) (a : ℕ) (s : Boats) → Fit t p → length p < boats t → a < choices t (length p) → F.live tt p a ≡ true → (F.trial tt p a).verdict ≡ fail s →
        Bars t (λ j. T (s j)) p (length p) a
    pub passed : (p : List ℕ) (a : ℕ) → Fit t p → length p < boats t → a < choices t (length p) → F.live tt p a ≡ true → (F.trial tt p a).verdict ≡ pass tt →
        (h : ℕ) → h < length p → T (may_stand t h (at p h) (length p) a)

  -- A method follows the forward move, and its ways back are justified. `Inv` is what the method knows of its state.
  pub record Justified {S : Type 0} (M : Steps S) (Inv : List ℕ → ℕ → S → Type 0) : Type 0 where
    pub same_live : (p : List ℕ) (a : ℕ) (σ : S) → Inv p a σ → length p < boats t → a < choices t (length p) → (readied t M p a σ).passed ≡ F.live tt p a
    pub same_pass : (p : List ℕ) (a : ℕ) (σ : S) → Inv p a σ → length p < boats t → a < choices t (length p) → (readied t M p a σ).passed ≡ true →
        (labelled t M p a σ).passed ≡ passes (F.trial tt p a).verdict
    pub keep_skip : (p : List ℕ) (a : ℕ) (σ : S) → Fit t p → Inv p a σ → length p < boats t → a < choices t (length p) → (readied t M p a σ).passed ≡ false → Inv p (suc a) (readied t M p a σ).after
    pub keep_fail : (p : List ℕ) (a : ℕ) (σ : S) → Fit t p → Inv p a σ → length p < boats t → a < choices t (length p) → (readied t M p a σ).passed ≡ true →
        (labelled t M p a σ).passed ≡ false → Inv p (suc a) (labelled t M p a σ).after
    pub keep_pass : (p : List ℕ) (a : ℕ) (σ : S) → Fit t p → Inv p a σ → length p < boats t → a < choices t (length p) → (readied t M p a σ).passed ≡ true →
        (labelled t M p a σ).passed ≡ true → Inv (p ++ (a ∷ [])) 0 (labelled t M p a σ).after
    pub out : (p : List ℕ) (a : ℕ) (σ : S) → Fit t p → Behind t p a → Inv p a σ → length p < boats t → choices t (length p) ≤ a →
        M.unlabel σ p ≡ nowhere → NoneStands t
    pub jumps : (p : List ℕ) (a : ℕ) (σ : S) → Fit t p → Behind t p a → Inv p a σ → length p < boats t → choices t (length p) ≤ a →
        (h : ℕ) (τ : S) → M.unlabel σ p ≡ back h τ → (h < length p) × Dead t p h × Inv (take h p) (suc (at p h)) τ

  pub verdict_pass : (v : Verdict (Unit {0})) → passes v ≡ true → v ≡ pass tt
  verdict_pass (pass tt) e = refl
  verdict_pass (fail s) e = let z : ◌≡◌ {A = ℕ} 0 1 = cc in absurd (omega arith)

  -- a slot that is struck or fails is barred by the boats below
  pub struck_below : Honest → (p : List ℕ) (a : ℕ) → Fit t p → length p < boats t → a < choices t (length p) → F.live tt p a ≡ false →
      Bars t (λ j. j < length p) p (length p) a
  struck_below H p a f h l m =
      bars_more t (λ j. T (F.blamers tt p j)) (λ j. j < length p) p (length p) a (λ j x. H.blame_below p j f x) (H.struck p a f h l m)

  pub failed_below : Honest → (p : List ℕ) (a : ℕ) → Fit t p → length p < boats t → a < choices t (length p) → F.live tt p a ≡ true → passes (F.trial tt p a).verdict ≡ false →
      Bars t (λ j. j < length p) p (length p) a
  failed_below H p a f h l m e = by_verdict (F.trial tt p a).verdict refl
    where
      by_verdict : (v : Verdict (Unit {0})) → (F.trial tt p a).verdict ≡ v → Bars t (λ j. j < length p) p (length p) a
      by_verdict (pass x) u = let z : ◌≡◌ {A = ℕ} 0 1 = cc in absurd (omega arith)
      by_verdict (fail s) u =
          bars_more t (λ j. T (s j)) (λ j. j < length p) p (length p) a (H.fail_below p a s f h l m u) (H.failed p a s f h l m u)

  module _ (H : Honest) {S : Type 0} (M : Steps S) (Inv : List ℕ → ℕ → S → Type 0) (J : Justified M Inv) where
    pub record Holds (p : List ℕ) (a : ℕ) (σ : S) : Type 0 where
      pub fit : Fit t p
      pub behind : Behind t p a
      pub inv : Inv p a σ

    pub holds_skip : (p : List ℕ) (a : ℕ) (σ : S) → Holds p a σ → length p < boats t → a < choices t (length p) → (readied t M p a σ).passed ≡ false → Holds p (suc a) (readied t M p a σ).after
    holds_skip p a σ K h l m =
        record {
          fit = K.fit;
          behind = behind_slot t p a K.behind (struck_below H p a K.fit h l (sym (J.same_live p a σ K.inv h l) ∙ m));
          inv = J.keep_skip p a σ K.fit K.inv h l m;
        }

    pub holds_fail : (p : List ℕ) (a : ℕ) (σ : S) → Holds p a σ → length p < boats t → a < choices t (length p) → (readied t M p a σ).passed ≡ true →
        (labelled t M p a σ).passed ≡ false → Holds p (suc a) (labelled t M p a σ).after
    holds_fail p a σ K h l m u =
        record {
          fit = K.fit;
          behind = behind_slot t p a K.behind
              (failed_below H p a K.fit h l (sym (J.same_live p a σ K.inv h l) ∙ m) (sym (J.same_pass p a σ K.inv h l m) ∙ u));
          inv = J.keep_fail p a σ K.fit K.inv h l m u;
        }

    pub holds_pass : (p : List ℕ) (a : ℕ) (σ : S) → Holds p a σ → length p < boats t → a < choices t (length p) → (readied t M p a σ).passed ≡ true →
        (labelled t M p a σ).passed ≡ true → Holds (p ++ (a ∷ [])) 0 (labelled t M p a σ).after
    holds_pass p a σ K h l m u =
        record {
          fit = fit_snoc t p a K.fit h l
              (H.passed p a K.fit h l (sym (J.same_live p a σ K.inv h l) ∙ m) (verdict_pass (F.trial tt p a).verdict (sym (J.same_pass p a σ K.inv h l m) ∙ u)));
          behind = behind_snoc t p a K.behind;
          inv = J.keep_pass p a σ K.fit K.inv h l m u;
        }

    pub holds_back : (p : List ℕ) (a : ℕ) (σ : S) → Holds p a σ → length p < boats t → choices t (length p) ≤ a → (h : ℕ) (τ : S) → M.unlabel σ p ≡ back h τ →
        Holds (take h p) (suc (at p h)) τ
    holds_back p a σ K h l j τ m =
        let w = J.jumps p a σ K.fit K.behind K.inv h l j τ m in
        record { fit = fit_take t p j K.fit w.0; behind = behind_back t p a j K.behind w.0 w.1; inv = w.2 }

    moved : (p : List ℕ) (a : ℕ) (σ : S) {es es₁ : List Event} {p₁ p₂ : List ℕ} {a₁ a₂ : ℕ} {σ₁ σ₂ : S} →
        step t M p a σ ≡ next es p₂ a₂ σ₂ → step t M p a σ ≡ next es₁ p₁ a₁ σ₁ → Holds p₁ a₁ σ₁ → Holds p₂ a₂ σ₂
    moved p a σ e s K =
        let z = next_same (step t M p a σ) e s in
        rw (z.1, z.2, z.3) K

    pub keeps : (p : List ℕ) (a : ℕ) (σ : S) → Holds p a σ → {es : List Event} {p₁ : List ℕ} {a₁ : ℕ} {σ₁ : S} →
        step t M p a σ ≡ next es p₁ a₁ σ₁ → View t M p a σ → Holds p₁ a₁ σ₁
    keeps p a σ K e (at_end_lem h s) = absurd (stop_or_next (step t M p a σ) s e)
    keeps p a σ K e (at_out h l m s) = absurd (stop_or_next (step t M p a σ) s e)
    keeps p a σ K e (at_back h l j τ m b s) = moved p a σ e s (holds_back p a σ K h l j τ m)
    keeps p a σ K e (at_astray h l j τ m b s) = absurd (stop_or_next (step t M p a σ) s e)
    keeps p a σ K e (at_skip h l m s) = moved p a σ e s (holds_skip p a σ K h l m)
    keeps p a σ K e (at_fail h l m u s) = moved p a σ e s (holds_fail p a σ K h l m u)
    keeps p a σ K e (at_pass h l m u s) = moved p a σ e s (holds_pass p a σ K h l m u)

    means : (p : List ℕ) (a : ℕ) (σ : S) → Holds p a σ → {r : Ending} → step t M p a σ ≡ stop r → View t M p a σ → Meaning t r
    means p a σ K {r} e (at_end_lem h s) =
        let x : r ≡ solved p = stop_same (step t M p a σ) e s in
        rw x
        (record {
          stands = fit_whole t p K.fit h;
          first = λ q law k lk agree. not_lt (at p k) (at q k) (λ lt. K.behind.before k lk (at q k) lt q law agree refl);
        })
    means p a σ K {r} e (at_out h l m s) =
        let x : r ≡ no_plan = stop_same (step t M p a σ) e s in
        rw x (J.out p a σ K.fit K.behind K.inv h l m)
    means p a σ K e (at_back h l j τ m b s) = absurd (stop_or_next (step t M p a σ) e s)
    means p a σ K e (at_astray h l j τ m b s) = absurd (omega (arith, (J.jumps p a σ K.fit K.behind K.inv h l j τ m).0))
    means p a σ K e (at_skip h l m s) = absurd (stop_or_next (step t M p a σ) e s)
    means p a σ K e (at_fail h l m u s) = absurd (stop_or_next (step t M p a σ) e s)
    means p a σ K e (at_pass h l m u s) = absurd (stop_or_next (step t M p a σ) e s)

    -- DEMAND 2
    pub sound : {p : List ℕ} {a : ℕ} {σ : S} {es : List Event} {r : Ending} → Runs t M p a σ es r → Holds p a σ → Meaning t r
    sound {p} {a} {σ} (ends e) K = means p a σ K e (view t M p a σ)
    sound {p} {a} {σ} (goes e R) K = sound R (keeps p a σ K e (view t M p a σ))

    pub sound_start : (σ : S) → Inv [] 0 σ → {es : List Event} {r : Ending} → Runs t M [] 0 σ es r → Meaning t r
    sound_start σ i R = sound R (record { fit = fit_start t; behind = behind_start t; inv = i })

-- The jumping method over an honest forward move is justified: what conflict sets know.
use mathlib.Core.Path.{◌≡◌, refl, ◌∙◌}
use mathlib.Core.Bool.{true, false, ◌||◌}
use mathlib.Core.List.{List, [], ◌∷◌, ◌++◌}
use mathlib.Core.Logic.{◌⊎◌, inl, inr}
use mathlib.Core.Option.{none, some}
use Prim.Native.Nat.{ℕ, suc, ◌≤◌, ◌<◌}
use native.Mathlib.Omega.{arith}
use native.Mathlib.Decide.{dec_lt, ℕ_discrete}
use native.Mathlib.Nat.{lt_of_lt_of_le, le_of_lt, lt_trans}
use lib.Dec.{T}
use lib.ListN.{length, take, length-append}
use lib.Seq.{take-append-le, take-append_seam, length-take-le, take-take}
use Rattle.problem.specs.Tables.{Tables, boats}
use Rattle.methods.specs.Choices.{choices}
use Rattle.methods.specs.Moves.{Boats, Verdict, pass, fail, passes, Forward}
use Rattle.methods.specs.CBJ.{Sets, Jumping, blamed, deepest, handed_down, to_blame, jumping}
use Rattle.methods.proofs.Runs.{at, at_take, at_snoc, at_last}
use Rattle.methods.proofs.Standing.{Stands, Fit, fit_take}
use Rattle.methods.proofs.Sound.{Bars, bars_more, Honest, Justified, verdict_pass}
use Rattle.methods.proofs.Sets.{or_left, or_right, or_cases, deepest_some, deepest_none, blamed_old, blamed_new, handed_below, handed_old, handed_new, jump_out, jump_back}
use Rattle.methods.proofs.Members.{MembersBelow, blamed_members, handed_members, to_blame_members}

module _ (t : Tables) (F : Forward (Unit {0})) (H : Honest t F) where
  -- What conflict sets know: a boat's set holds lower boats alone; a choice that was given up is barred by the boat's set and its blamers.
  pub record Knows (p : List ℕ) (a : ℕ) (σ : Jumping (Unit {0})) : Type 0 where
    pub within : MembersBelow σ.sets
    pub before : (k : ℕ) → k < length p → (b : ℕ) → b < at p k → Bars t (λ j. T (σ.sets k j || F.blamers tt (take k p) j)) p k b
    pub here : (b : ℕ) → b < a → Bars t (λ j. T (to_blame F σ p j)) p (length p) b

  pub knows_start : Knows [] 0 (jumping t F).start
  knows_start = record { within = λ k j x. absurd x; before = λ k lk. absurd (omega arith); here = λ b lb. absurd (omega arith) }

  -- No. 14: no choice left, so no plan that stands agrees with p on the set with the blamers
  pub full_set : (p : List ℕ) (a : ℕ) (σ : Jumping (Unit {0})) → Knows p a σ → length p < boats t → choices t (length p) ≤ a →
      (q : List ℕ) → Stands t q → ((j : ℕ) → T (to_blame F σ p j) → at q j ≡ at p j) → ⊥
  full_set p a σ K h l q law agree = K.here (at q (length p)) (lt_of_lt_of_le (law.within (length p) h) l) q law agree refl

  -- of a placed boat, or the boat at hand: its set with its blamers holds lower boats alone
  member_below : (p : List ℕ) (a : ℕ) (σ : Jumping (Unit {0})) → Fit t p → Knows p a σ → (k : ℕ) → k < length p → (j : ℕ) →
      T (σ.sets k j || F.blamers tt (take k p) j) → j < k
  member_below p a σ f K k lk j x = by_case (or_cases (σ.sets k j) (F.blamers tt (take k p) j) x)
    where
      by_case : T (σ.sets k j) ⊎ T (F.blamers tt (take k p) j) → j < k
      by_case (inl y) = K.within k j y
      by_case (inr y) = rw (length-take-le k p (le_of_lt lk)) at (H.blame_below (take k p) j (fit_take t p k f lk) y)

  to_blame_below : (p : List ℕ) (a : ℕ) (σ : Jumping (Unit {0})) → Fit t p → Knows p a σ → (j : ℕ) → T (to_blame F σ p j) → j < length p
  to_blame_below p a σ f K = to_blame_members F p σ K.within (λ j x. H.blame_below p j f x)

  -- ---- one more choice is given up
  knows_slot : (p : List ℕ) (a : ℕ) (σ : Jumping (Unit {0})) → Knows p a σ → Bars t (λ j. T (to_blame F σ p j)) p (length p) a → Knows p (suc a) σ
  knows_slot p a σ K x = record { within = K.within; before = K.before; here = λ b lt. by_case b lt (ℕ_discrete b a) }
    where
      by_case : (b : ℕ) → b < suc a → Dec (b ≡ a) → Bars t (λ j. T (to_blame F σ p j)) p (length p) b
      by_case b lt (yes e) = rw e x
      by_case b lt (no ne) = K.here b (omega arith)

  knows_skip : (p : List ℕ) (a : ℕ) (σ : Jumping (Unit {0})) → Fit t p → Knows p a σ → length p < boats t → a < choices t (length p) → F.live tt p a ≡ false → Knows p (suc a) σ
  knows_skip p a σ f K h l m =
      knows_slot p a σ K
      (bars_more t (λ j. T (F.blamers tt p j)) (λ j. T (to_blame F σ p j)) p (length p) a (λ j x. or_right (σ.sets (length p) j) (F.blamers tt p j) x) (H.struck p a f h l m))

  -- boats are put into the set of the boat at hand
  knows_more : (p : List ℕ) (a : ℕ) (σ : Jumping (Unit {0})) (s : Boats) → Knows p a σ → ((j : ℕ) → T (s j) → j < length p) → Bars t (λ j. T (s j)) p (length p) a →
      Knows p (suc a) (record { sets = blamed σ.sets (length p) {S = Unit {0}} (fail s); rest = tt })
  knows_more p a σ s K sb B =
      knows_slot p a (record { sets = new; rest = tt }) (record { within = blamed_members σ.sets K.within (length p) s sb; before = bf; here = hr }) last
    where
      new : Sets
      new = blamed σ.sets (length p) {S = Unit {0}} (fail s)

      more : (k : ℕ) (c : Boats) (j : ℕ) → T (σ.sets k j || c j) → T (new k j || c j)
      more k c j x = by_case (or_cases (σ.sets k j) (c j) x)
        where
          by_case : T (σ.sets k j) ⊎ T (c j) → T (new k j || c j)
          by_case (inl y) = or_left (new k j) (c j) (blamed_old σ.sets (length p) s k j y)
          by_case (inr y) = or_right (new k j) (c j) y

      bf : (k : ℕ) → k < length p → (b : ℕ) → b < at p k → Bars t (λ j. T (new k j || F.blamers tt (take k p) j)) p k b
      bf k lk b lb = λ q law agree. K.before k lk b lb q law (λ j x. agree j (more k (F.blamers tt (take k p)) j x))

      hr : (b : ℕ) → b < a → Bars t (λ j. T (new (length p) j || F.blamers tt p j)) p (length p) b
      hr b lb = λ q law agree. K.here b lb q law (λ j x. agree j (more (length p) (F.blamers tt p) j x))

      last : Bars t (λ j. T (new (length p) j || F.blamers tt p j)) p (length p) a
      last = λ q law agree. B q law (λ j x. agree j (or_left (new (length p) j) (F.blamers tt p j) (blamed_new σ.sets (length p) s j x)))

  knows_fail : (p : List ℕ) (a : ℕ) (σ : Jumping (Unit {0})) → Fit t p → Knows p a σ → length p < boats t → a < choices t (length p) → F.live tt p a ≡ true →
      (v : Verdict (Unit {0})) → (F.trial tt p a).verdict ≡ v → passes v ≡ false → Knows p (suc a) (record { sets = blamed σ.sets (length p) v; rest = tt })
  knows_fail p a σ f K h l m (pass τ) e u = let z : ◌≡◌ {A = ℕ} 0 1 = cc in absurd (omega arith)
  knows_fail p a σ f K h l m (fail s) e u = knows_more p a σ s K (H.fail_below p a s f h l m e) (H.failed p a s f h l m e)

  -- ---- forward
  knows_pass : (p : List ℕ) (a : ℕ) (σ : Jumping (Unit {0})) → Fit t p → Knows p a σ → Knows (p ++ (a ∷ [])) 0 σ
  knows_pass p a σ f K = record { within = K.within; before = λ k lk b lb. by_case k lk b lb (dec_lt k (length p)); here = λ b lt. absurd (omega arith) }
    where
      on_last : (b : ℕ) → b < a → Bars t (λ j. T (σ.sets (length p) j || F.blamers tt (take (length p) (p ++ (a ∷ []))) j)) (p ++ (a ∷ [])) (length p) b
      on_last b lb q law agree eb =
          K.here b lb q law
          (λ j x. agree j (rw (take-append_seam p (a ∷ [])) x) ∙ at_snoc p a j (to_blame_below p a σ f K j x)) eb

      by_case : (k : ℕ) → k < length (p ++ (a ∷ [])) → (b : ℕ) → b < at (p ++ (a ∷ [])) k → Dec (k < length p) →
          Bars t (λ j. T (σ.sets k j || F.blamers tt (take k (p ++ (a ∷ []))) j)) (p ++ (a ∷ [])) k b
      by_case k lk b lb (yes y) = λ q law agree eb.
          K.before k y b (rw (at_snoc p a k y) at lb) q law
          (λ j x. agree j (rw (take-append-le k p (a ∷ []) (le_of_lt y)) x) ∙ at_snoc p a j (lt_trans (member_below p a σ f K k y j x) y)) eb
      by_case k lk b lb (no ny) =
          let e : length p ≡ k = omega (arith, simp length-append at lk) in
          let lb' : b < at (p ++ (a ∷ [])) (length p) = rw e lb in
          let lb'' : b < a = rw (at_last p a) at lb' in
          rw (← e) (on_last b lb'')

  -- ---- back to the deepest that is to blame
  module _ (p : List ℕ) (a : ℕ) (σ : Jumping (Unit {0})) (f : Fit t p) (K : Knows p a σ) (lp : length p < boats t) where
    -- nobody is deeper
    no_deeper : (h : ℕ) → deepest (boats t) (to_blame F σ p) ≡ some h → (j : ℕ) → T (to_blame F σ p j) → j ≤ h
    no_deeper h e j x = (deepest_some (boats t) h (to_blame F σ p) e).1 j (lt_trans (to_blame_below p a σ f K j x) lp) x

    -- a placed boat
    target_below : (h : ℕ) → deepest (boats t) (to_blame F σ p) ≡ some h → h < length p
    target_below h e = to_blame_below p a σ f K h (deepest_some (boats t) h (to_blame F σ p) e).0

    nobody_left : deepest (boats t) (to_blame F σ p) ≡ none → (j : ℕ) → T (to_blame F σ p j) → ⊥
    nobody_left e j x = deepest_none (boats t) (to_blame F σ p) e j (lt_trans (to_blame_below p a σ f K j x) lp) x

    knows_back : choices t (length p) ≤ a → (h : ℕ) → deepest (boats t) (to_blame F σ p) ≡ some h →
        Knows (take h p) (suc (at p h)) (record { sets = handed_down σ.sets (length p) h (to_blame F σ p); rest = tt })
    knows_back sz h e =
        record {
          within = handed_members σ.sets K.within (length p) (to_blame F σ p) h (no_deeper h e);
          before = bf;
          here = λ b lb. rw el (hr b lb (ℕ_discrete b (at p h)));
        }
      where
        new : Sets
        new = handed_down σ.sets (length p) h (to_blame F σ p)

        lh : h < length p
        lh = target_below h e

        el : length (take h p) ≡ h
        el = length-take-le h p (le_of_lt lh)

        bf : (k : ℕ) → k < length (take h p) → (b : ℕ) → b < at (take h p) k →
            Bars t (λ j. T (new k j || F.blamers tt (take k (take h p)) j)) (take h p) k b
        bf k lk b lb q law agree eb =
            let lk' : k < h = rw el at lk in
            K.before k (lt_trans lk' lh) b (rw (at_take p h k lk') at lb) q law
            (λ j x.
            agree j (rw (handed_below σ.sets (length p) h (to_blame F σ p) k j lk', take-take k h p (le_of_lt lk')) x)
            ∙ at_take p h j (lt_trans (member_below p a σ f K k (lt_trans lk' lh) j x) lk')) eb

        hr : (b : ℕ) → b < suc (at p h) → Dec (b ≡ at p h) → Bars t (λ j. T (new h j || F.blamers tt (take h p) j)) (take h p) h b
        hr b lb (no ne) q law agree eb =
            K.before h lh b (omega arith) q law
            (λ j x. agree j (up j (or_cases (σ.sets h j) (F.blamers tt (take h p) j) x)) ∙ at_take p h j (member_below p a σ f K h lh j x)) eb
          where
            up : (j : ℕ) → T (σ.sets h j) ⊎ T (F.blamers tt (take h p) j) → T (new h j || F.blamers tt (take h p) j)
            up j (inl x) =
                or_left (new h j) (F.blamers tt (take h p) j)
                (handed_old σ.sets (length p) h (to_blame F σ p) j x (let y = K.within h j x in omega arith))
            up j (inr x) = or_right (new h j) (F.blamers tt (take h p) j) x
        hr b lb (yes eq) q law agree eb = full_set p a σ K lp sz q law (λ j x. on j x (ℕ_discrete j h))
          where
            on : (j : ℕ) → T (to_blame F σ p j) → Dec (j ≡ h) → at q j ≡ at p j
            on j x (yes y) = rw y (eb ∙ eq)
            on j x (no ny) =
                let z = no_deeper h e j x in
                agree j (or_left (new h j) (F.blamers tt (take h p) j) (handed_new σ.sets (length p) h (to_blame F σ p) j x ny)) ∙ at_take p h j (omega arith)

  pub jumps_justified : Justified t F (jumping t F) Knows
  jumps_justified =
      record {
        same_live = λ p a σ i h l. refl;
        same_pass = λ p a σ i h l m. refl;
        keep_skip = λ p a σ f i h l m. knows_skip p a σ f i h l m;
        keep_fail = λ p a σ f i h l m u. knows_fail p a σ f i h l m (F.trial tt p a).verdict refl u;
        keep_pass = λ p a σ f i h l m u. rw (verdict_pass t F (F.trial tt p a).verdict u) (knows_pass p a σ f i);
        out = λ p a σ f B i h l e q law.
            full_set p a σ i h l q law (λ j x. absurd (nobody_left p a σ f i h (jump_out F σ (length p) (to_blame F σ p) _ e) j x));
        jumps = λ p a σ f B i h l j τ e.
            let z = jump_back F σ (length p) (to_blame F σ p) _ j τ e in (
              target_below p a σ f i h j z.0,
              λ q law agree. full_set p a σ i h l q law (λ k x. agree k (omega (arith, no_deeper p a σ f i h j z.0 k x))),
              rw z.1 (knows_back p a σ f i h l j z.0),
            );
      }

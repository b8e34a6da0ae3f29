-- Backmarking over looking back: what the marks know at each place, that BM passes the same choices as BT, and that a trial makes no more checks.
use mathlib.Core.Path.{◌≡◌, refl, sym, ◌∙◌, ap}
use mathlib.Core.Bool.{Bool, true, false, and-false}
use mathlib.Core.List.{List, [], ◌∷◌, ◌++◌}
use mathlib.Core.Logic.{◌≢◌}
use mathlib.Core.Option.{Option, none, some}
use Prim.Native.Nat.{ℕ, suc, pred, min, ◌+◌, ◌≤◌, ◌<◌, zero-le}
use native.Mathlib.Omega.{arith}
use native.Mathlib.Decide.{dec_lt, ℕ_discrete}
use native.Mathlib.Nat.{lt_of_lt_of_le, le_of_lt, lt_trans, le_refl, zero-add}
use lib.Dec.{T, eqb, ltb}
use lib.ListN.{length, take, drop, length-append}
use lib.Seq.{length-take-le}
use borrow.Author.Tests.{eq-eqb, ne_eqb, lt-ltb, le-ltb, ltb-true, ltb-false}
use Rattle.problem.specs.Tables.{Tables, boats}
use Rattle.events.specs.Events.{trials, checks, trials_of, checks_of}
use Rattle.methods.specs.Choices.{choices, may_stand}
use Rattle.methods.specs.Machine.{Tried}
use Rattle.methods.specs.Moves.{passes}
use Rattle.methods.specs.BT.{Looked, look_back, blame_failing, looking_back}
use Rattle.methods.specs.BM.{Marks, no_marks, last_looked_at, marked, is_clear, marked_trial, lowered, bm}
use Rattle.methods.proofs.Runs.{at, at_take, at_snoc, at_last, readied, labelled}
use Rattle.methods.proofs.Sound.{Justified}
use Rattle.methods.proofs.Steps.{no_way, one_way, one_after, full}
use Rattle.methods.specs.ByPlan.{refuser}
use Rattle.methods.proofs.Looking.{failing_is, refuser_none, look_trials}
use Rattle.methods.proofs.Marks.{Right, right_less, right_along, right_look, refuser_drop, checks_drop}

module _ (t : Tables) where
  -- what the marks know: a choice that was tried since the boats below its boat were last changed has a right mark for all of them but the last;
  -- any other has one for the boats below b
  pub record Marked (p : List ℕ) (a : ℕ) (σ : Marks) : Type 0 where
    pub low_boat : (k : ℕ) → σ.b k ≤ k
    pub low_plan : (k : ℕ) → σ.b k ≤ length p
    pub tried_before : (k x : ℕ) → k < length p → x ≤ at p k → Right t p k x (σ.m k x) (pred k)
    pub tried_here : (x : ℕ) → x < a → Right t p (length p) x (σ.m (length p) x) (pred (length p))
    pub fresh_before : (k x : ℕ) → k < length p → at p k < x → x < choices t k → Right t p k x (σ.m k x) (σ.b k)
    pub fresh_here : (x : ℕ) → a ≤ x → x < choices t (length p) → Right t p (length p) x (σ.m (length p) x) (σ.b (length p))
    pub fresh_after : (k x : ℕ) → length p < k → x < choices t k → Right t p k x (σ.m k x) (σ.b k)

  -- at the start all are 0, and say nothing
  pub marked_start : Marked [] 0 no_marks
  marked_start =
      record {
        low_boat = λ k. zero-le;
        low_plan = λ k. zero-le;
        tried_before = λ k x lk. absurd (omega arith);
        tried_here = λ x lx. absurd (omega arith);
        fresh_before = λ k x lk. absurd (omega arith);
        fresh_here = λ x lx sx. record { bad = λ lt. absurd (omega arith); good = λ h lh. absurd (omega arith) };
        fresh_after = λ k x lk sx. record { bad = λ lt. absurd (omega arith); good = λ h lh. absurd (omega arith) };
      }

  -- ---- the moves
  -- a trial that marks: the choice is tried, with a right mark, and nothing else is changed
  marked_choice : (p : List ℕ) (a : ℕ) (σ : Marks) (g : ℕ) → Marked p a σ → Right t p (length p) a g (pred (length p)) → Marked p (suc a) (marked σ (length p) a g)
  marked_choice p a σ g K R =
      record {
        low_boat = K.low_boat;
        low_plan = K.low_plan;
        tried_before = λ k x lk lx. rw (other_boat k x (omega arith)) (K.tried_before k x lk lx);
        tried_here = λ x lx. here x lx (ℕ_discrete x a);
        fresh_before = λ k x lk lx sx. rw (other_boat k x (omega arith)) (K.fresh_before k x lk lx sx);
        fresh_here = λ x lx sx. rw (other_choice (length p) x (omega arith)) (K.fresh_here x (le_of_lt lx) sx);
        fresh_after = λ k x lk sx. rw (other_boat k x (omega arith)) (K.fresh_after k x lk sx);
      }
    where
      other_boat : (k x : ℕ) → k ≢ length p → (marked σ (length p) a g).m k x ≡ σ.m k x
      other_boat k x ne = rw (ne_eqb k (length p) ne)

      other_choice : (k x : ℕ) → x ≢ a → (marked σ (length p) a g).m k x ≡ σ.m k x
      other_choice k x ne = rw (ne_eqb x a ne, and-false (eqb k (length p)))

      itself : (marked σ (length p) a g).m (length p) a ≡ g
      itself = rw (eq-eqb (length p) (length p) refl, eq-eqb a a refl)

      here : (x : ℕ) → x < suc a → Dec (x ≡ a) → Right t p (length p) x ((marked σ (length p) a g).m (length p) x) (pred (length p))
      here x lx (yes e) = rw (e, itself) R
      here x lx (no ne) = rw (other_choice (length p) x ne) (K.tried_here x (omega arith))

  -- a trial that looks at nothing: its mark was right, and stays
  marked_kept : (p : List ℕ) (a : ℕ) (σ : Marks) → Marked p a σ → Right t p (length p) a (σ.m (length p) a) (pred (length p)) → Marked p (suc a) σ
  marked_kept p a σ K R =
      record {
        low_boat = K.low_boat;
        low_plan = K.low_plan;
        tried_before = K.tried_before;
        tried_here = λ x lx. here x lx (ℕ_discrete x a);
        fresh_before = K.fresh_before;
        fresh_here = λ x lx sx. K.fresh_here x (le_of_lt lx) sx;
        fresh_after = K.fresh_after;
      }
    where
      here : (x : ℕ) → x < suc a → Dec (x ≡ a) → Right t p (length p) x (σ.m (length p) x) (pred (length p))
      here x lx (yes e) = rw e R
      here x lx (no ne) = K.tried_here x (omega arith)

  -- forward to the next boat
  marked_snoc : (p : List ℕ) (a : ℕ) (σ : Marks) → Marked p (suc a) σ → Marked (p ++ (a ∷ [])) 0 σ
  marked_snoc p a σ K =
      record {
        low_boat = K.low_boat;
        low_plan = λ k. rw e (omega (arith, K.low_plan k));
        tried_before = λ k x lk lx. tb k x (rw e at lk) lx (dec_lt k (length p));
        tried_here = λ x lx. absurd (omega arith);
        fresh_before = λ k x lk lx sx. fb k x (rw e at lk) lx sx (dec_lt k (length p));
        fresh_here = λ x lx sx. along (length (p ++ (a ∷ []))) x (σ.b (length (p ++ (a ∷ [])))) (K.low_plan (length (p ++ (a ∷ []))))
            (K.fresh_after (length (p ++ (a ∷ []))) x (rw e (omega arith)) sx);
        fresh_after = λ k x lk sx. along k x (σ.b k) (K.low_plan k) (K.fresh_after k x (omega (arith, rw e at lk)) sx);
      }
    where
      e : length (p ++ (a ∷ [])) ≡ length p + 1
      e = length-append p (a ∷ [])

      along : (k x c : ℕ) → c ≤ length p → Right t p k x (σ.m k x) c → Right t (p ++ (a ∷ [])) k x (σ.m k x) c
      along k x c lc R = right_along t p (p ++ (a ∷ [])) k x (σ.m k x) c (λ h lh. at_snoc p a h (lt_of_lt_of_le lh lc)) R

      tb : (k x : ℕ) → k < length p + 1 → x ≤ at (p ++ (a ∷ [])) k → Dec (k < length p) → Right t (p ++ (a ∷ [])) k x (σ.m k x) (pred k)
      tb k x lk lx (yes y) = along k x (pred k) (omega arith) (K.tried_before k x y (rw (at_snoc p a k y) at lx))
      tb k x lk lx (no ny) =
          let f : k ≡ length p = omega arith in
          let lx' : x ≤ at (p ++ (a ∷ [])) (length p) = rw f at lx in
          let lx'' : x ≤ a = rw (at_last p a) at lx' in
          rw f (along (length p) x (pred (length p)) (omega arith) (K.tried_here x (omega arith)))

      fb : (k x : ℕ) → k < length p + 1 → at (p ++ (a ∷ [])) k < x → x < choices t k → Dec (k < length p) → Right t (p ++ (a ∷ [])) k x (σ.m k x) (σ.b k)
      fb k x lk lx sx (yes y) = along k x (σ.b k) (K.low_plan k) (K.fresh_before k x y (rw (at_snoc p a k y) at lx) sx)
      fb k x lk lx sx (no ny) =
          let f : k ≡ length p = omega arith in
          let lx' : at (p ++ (a ∷ [])) (length p) < x = rw f at lx in
          let lx'' : a < x = rw (at_last p a) at lx' in
          let sx' : x < choices t (length p) = rw f at sx in
          rw f (along (length p) x (σ.b (length p)) (K.low_plan (length p)) (K.fresh_here x lx'' sx'))

  -- back to the boat before
  marked_back : (p : List ℕ) (a h : ℕ) (σ : Marks) → Marked p a σ → length p ≡ suc h → choices t (length p) ≤ a → Marked (take h p) (suc (at p h)) (lowered σ (suc h) h)
  marked_back p a h σ K ep sz =
      record {
        low_boat = λ k. lb k (ℕ_discrete k (suc h)) (dec_lt (suc h) k);
        low_plan = λ k. rw e (lp k (ℕ_discrete k (suc h)) (dec_lt (suc h) k));
        tried_before = λ k x lk lx. let lk' : k < h = rw e at lk in along k x (pred k) (omega arith) (K.tried_before k x (omega arith) (rw (at_take p h k lk') at lx));
        tried_here = λ x lx. rw e (along h x (pred h) (omega arith) (K.tried_before h x (omega arith) (omega arith)));
        fresh_before = λ k x lk lx sx.
            let lk' : k < h = rw e at lk in
            rw (below k (omega arith)) (along k x (σ.b k) (omega (arith, K.low_boat k)) (K.fresh_before k x (omega arith) (rw (at_take p h k lk') at lx) sx));
        fresh_here = λ x lx sx. rw (e, below h (omega arith)) (along h x (σ.b h) (K.low_boat h) (K.fresh_before h x (omega arith) lx (rw e at sx)));
        fresh_after = λ k x lk sx. fa k x (rw e at lk) sx (ℕ_discrete k (suc h));
      }
    where
      e : length (take h p) ≡ h
      e = length-take-le h p (omega arith)

      along : (k x c : ℕ) → c ≤ h → Right t p k x (σ.m k x) c → Right t (take h p) k x (σ.m k x) c
      along k x c lc R = right_along t p (take h p) k x (σ.m k x) c (λ j lj. at_take p h j (lt_of_lt_of_le lj lc)) R

      at_i : (lowered σ (suc h) h).b (suc h) ≡ h
      at_i = rw (eq-eqb (suc h) (suc h) refl)

      above : (k : ℕ) → suc h < k → (lowered σ (suc h) h).b k ≡ min (σ.b k) h
      above k lk = rw (ne_eqb k (suc h) (omega arith), lt-ltb (suc h) k lk)

      below : (k : ℕ) → k ≤ h → (lowered σ (suc h) h).b k ≡ σ.b k
      below k lk = rw (ne_eqb k (suc h) (omega arith), le-ltb (suc h) k (omega arith))

      lb : (k : ℕ) → Dec (k ≡ suc h) → Dec (suc h < k) → (lowered σ (suc h) h).b k ≤ k
      lb k (yes y) d = rw (y, at_i) (omega arith)
      lb k (no ny) (yes g) = rw (above k g) (omega (arith, K.low_boat k))
      lb k (no ny) (no ng) = rw (below k (omega arith)) (K.low_boat k)

      lp : (k : ℕ) → Dec (k ≡ suc h) → Dec (suc h < k) → (lowered σ (suc h) h).b k ≤ h
      lp k (yes y) d = rw (y, at_i) (le_refl h)
      lp k (no ny) (yes g) = rw (above k g) (omega arith)
      lp k (no ny) (no ng) = rw (below k (omega arith)) (omega (arith, K.low_boat k))

      fa : (k x : ℕ) → h < k → x < choices t k → Dec (k ≡ suc h) → Right t (take h p) k x (σ.m k x) ((lowered σ (suc h) h).b k)
      fa k x lk sx (yes y) =
          let sx' : x < choices t (suc h) = rw y at sx in
          let sz' : choices t (suc h) ≤ a = rw ep at sz in
          let R : Right t p (suc h) x (σ.m (suc h) x) (pred (suc h)) = rw ep at (K.tried_here x (lt_of_lt_of_le sx' sz')) in
          rw (y, at_i) (along (suc h) x h (le_refl h) R)
      fa k x lk sx (no ny) =
          let g : suc h < k = omega arith in
          rw (above k g)
          (along k x (min (σ.b k) h) (omega arith)
          (right_less t p k x (σ.m k x) (σ.b k) (min (σ.b k) h) (omega arith) (K.fresh_after k x (omega arith) sx)))

  -- ---- one trial
  module _ (p : List ℕ) (a : ℕ) (σ : Marks) where
    -- what the trial looks at, if its mark is not below b
    abbrev looks : Looked
    looks = look_back t (length p) a (σ.b (length p)) (drop (σ.b (length p)) p)

    abbrev trying : (below : Bool) → Tried Marks
    trying b = marked_trial σ (length p) a looks b

    -- the mark is not below b: the boats below b allow the choice
    early : Marked p a σ → a < choices t (length p) → σ.b (length p) ≤ σ.m (length p) a →
        (k : ℕ) → k < σ.b (length p) → T (may_stand t (0 + k) (at p k) (length p) a)
    early K la le k lk = rw (zero-add k) ((K.fresh_here a (le_refl a) la).good k lk (lt_of_lt_of_le lk le))

    -- so it fails at the same boat as looking back from boat 0 on
    same_failing : Marked p a σ → a < choices t (length p) → σ.b (length p) ≤ σ.m (length p) a → refuser t (length p) a 0 p ≡ looks.failing
    same_failing K la le =
        let z : refuser t (length p) a 0 p ≡ refuser t (length p) a (σ.b (length p)) (drop (σ.b (length p)) p) =
        rw (zero-add (σ.b (length p))) at (refuser_drop t (length p) a (σ.b (length p)) 0 p (K.low_plan (length p)) (early K la le)) in
        z ∙ sym (failing_is t (length p) a (σ.b (length p)) (drop (σ.b (length p)) p))

    clear_pass : (x : Option ℕ) → is_clear x ≡ passes (blame_failing x)
    clear_pass none = refl
    clear_pass (some h) = refl

    -- the mark is below b: some boat does not allow the choice
    marked_bad : Marked p a σ → a < choices t (length p) → σ.m (length p) a < σ.b (length p) →
        (x : Option ℕ) → refuser t (length p) a 0 p ≡ x → passes (blame_failing x) ≡ false
    marked_bad K la lt none e =
        let v : ℕ = σ.m (length p) a in
        let lv : v < length p = lt_of_lt_of_le lt (K.low_plan (length p)) in
        let u : T (may_stand t v (at p v) (length p) a) = rw (zero-add v) at (refuser_none t (length p) a 0 p e v lv) in
        let f : may_stand t v (at p v) (length p) a ≡ false = (K.fresh_here a (le_refl a) la).bad lt in
        absurd (rw f at u)
    marked_bad K la lt (some h) e = refl

    -- BM passes the same choices as BT
    marked_pass : Marked p a σ → a < choices t (length p) → (b : Bool) → ltb (σ.m (length p) a) (σ.b (length p)) ≡ b →
        (trying b).passed ≡ passes (blame_failing (look_back t (length p) a 0 p).failing)
    marked_pass K la true u = sym (marked_bad K la (ltb-true _ _ u) (look_back t (length p) a 0 p).failing (sym (failing_is t (length p) a 0 p)))
    marked_pass K la false u =
        clear_pass looks.failing
        ∙ ap (λ (x : Option ℕ). passes (blame_failing x)) (sym (same_failing K la (ltb-false _ _ u)) ∙ sym (failing_is t (length p) a 0 p))

    -- the marks after it
    marked_try : Marked p a σ → a < choices t (length p) → (b : Bool) → ltb (σ.m (length p) a) (σ.b (length p)) ≡ b → Marked p (suc a) (trying b).after
    marked_try K la true u =
        let lt = ltb-true (σ.m (length p) a) (σ.b (length p)) u in
        let R = K.fresh_here a (le_refl a) la in
        marked_kept p a σ K (record { bad = λ l. R.bad lt; good = λ h lh lv. R.good h (lt_trans lv lt) lv })
    marked_try K la false u =
        marked_choice p a σ (last_looked_at (length p) looks.failing) K
        (right_look t p a looks.failing (same_failing K la (ltb-false _ _ u)))

    -- it makes no more checks
    marked_fewer : Marked p a σ → a < choices t (length p) → (b : Bool) → ltb (σ.m (length p) a) (σ.b (length p)) ≡ b →
        checks (trying b).checks ≤ checks (look_back t (length p) a 0 p).checks
    unfolding checks_of
    marked_fewer K la true u = zero-le
    marked_fewer K la false u =
        rw (zero-add (σ.b (length p))) at
        (checks_drop t (length p) a (σ.b (length p)) 0 p (K.low_plan (length p)) (early K la (ltb-false _ _ u)))

    marked_trials : (b : Bool) → trials (trying b).checks ≡ 0
    unfolding trials_of
    marked_trials true = refl
    marked_trials false = look_trials t (length p) a (σ.b (length p)) (drop (σ.b (length p)) p)

  -- BM follows looking back, and its ways back are justified
  pub marks_justified : Justified t (looking_back t) (bm t) Marked
  unfolding looking_back bm
  marks_justified =
      record {
        same_live = λ p a σ i h l. refl;
        same_pass = λ p a σ i h l m. marked_pass p a σ i l (ltb (σ.m (length p) a) (σ.b (length p))) refl;
        keep_skip = λ p a σ f i h l m. let z : ◌≡◌ {A = ℕ} 0 1 = cc in absurd (omega arith);
        keep_fail = λ p a σ f i h l m u. marked_try p a σ i l (ltb (σ.m (length p) a) (σ.b (length p))) refl;
        keep_pass = λ p a σ f i h l m u.
            marked_snoc p a ((bm t).label σ p a).after (marked_try p a σ i l (ltb (σ.m (length p) a) (σ.b (length p))) refl);
        out = λ p a σ f X i h l e. λ q law.
            let z = no_way (length p) (λ k. lowered σ (length p) k) e in
            full t p a X h l q law (λ j lj. absurd (omega arith));
        jumps = λ p a σ f X i h l j τ e.
            let z = one_way (length p) (λ k. lowered σ (length p) k) j τ e in
            let y = one_after (length p) (λ k. lowered σ (length p) k) j τ e in (
              omega arith,
              λ q law agree. full t p a X h l q law (λ k lk. agree k (omega arith)),
              rw (y, z) (marked_back p a j σ i z l),
            );
      }

  -- ---- BM beside BT, choice by choice
  -- no check is made before a trial
  pub marks_none_wait : (p : List ℕ) (a : ℕ) (σ : Marks) → (readied t (bm t) p a σ).checks ≡ []
  unfolding bm
  marks_none_wait p a σ = refl

  pub marks_few_trials : (p : List ℕ) (a : ℕ) (σ : Marks) → trials (labelled t (bm t) p a σ).checks ≤ trials ((looking_back t).trial tt p a).checks
  unfolding bm
  marks_few_trials p a σ = rw (marked_trials p a σ (ltb (σ.m (length p) a) (σ.b (length p)))) zero-le

  -- a trial of BM makes no more checks than BT's
  pub marks_few_checks : (p : List ℕ) (a : ℕ) (σ : Marks) → Marked p a σ → length p < boats t → a < choices t (length p) → (readied t (bm t) p a σ).passed ≡ true →
      checks (labelled t (bm t) p a σ).checks ≤ checks ((looking_back t).trial tt p a).checks
  unfolding looking_back bm
  marks_few_checks p a σ K lp la m = marked_fewer p a σ K la (ltb (σ.m (length p) a) (σ.b (length p))) refl

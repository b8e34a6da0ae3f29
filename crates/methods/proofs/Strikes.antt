-- What forward checking's strikes know of the plan so far, and so that it does what looking ahead by the plan does.
use mathlib.Core.Path.{◌≡◌, refl, sym, ◌∙◌, ap, fun_ext}
use mathlib.Core.Bool.{Bool, true, false, cond, not, ◌&&◌, ◌||◌, and-true, and-false, or-false, not-not}
use mathlib.Core.List.{List, [], ◌∷◌, ◌++◌}
use mathlib.Core.Option.{Option, none, some}
use Prim.Native.Nat.{ℕ, zero, suc, ◌+◌, ◌≤◌, ◌<◌}
use native.Mathlib.Omega.{arith}
use native.Mathlib.Decide.{dec_lt, ℕ_discrete}
use native.Mathlib.Nat.{add-zero, zero-add}
use borrow.Author.Tests.{lt-ltb, le-ltb, eq-eqb, ne_eqb}
use lib.Dec.{ltb, eqb, eqb_refl}
use lib.ListN.{length, take, length-append, length-take}
use lib.Seq.{take-nil, take_all, take-append-le}
use Rattle.problem.specs.Tables.{Tables, boats, is_listed}
use Rattle.problem.proofs.Places.{is_true}
use Rattle.methods.specs.Choices.{choices, may_stand}
use Rattle.methods.specs.Moves.{some?}
use Rattle.methods.specs.FC.{Strikes, no_strikes, is_live, strikers, slot_checks, choice_stays, sweep, struck, put_back_from}
use Rattle.methods.proofs.Looking.{may_unlisted, refuser_some}
use Rattle.methods.specs.ByPlan.{Struck, refuser, is_none, is_first, is_open, blamers_of, open_checks, open_stays, open_sweep}
use Rattle.methods.proofs.Ahead.{some?_intro, some?_same}

eqb_sym : (m n : ℕ) → eqb m n ≡ eqb n m
eqb_sym m n = by (ℕ_discrete m n)
  where
    by : Dec (m ≡ n) → eqb m n ≡ eqb n m
    by (yes e) = eq-eqb m n e ∙ sym (eq-eqb n m (sym e))
    by (no ne) = ne_eqb m n ne ∙ sym (ne_eqb n m (λ e. ne (sym e)))

take_swap : (m n : ℕ) (l : List ℕ) → take m (take n l) ≡ take n (take m l)
take_swap zero n l = sym (take-nil n)
take_swap (suc m) zero l = refl
take_swap (suc m) (suc n) [] = refl
take_swap (suc m) (suc n) (x ∷ l) = ap (λ (r : List ℕ). x ∷ r) (take_swap m n l)

-- ---- some boat below n is the first that refuses: there is such a boat
nobody_first : (n : ℕ) → some? n (λ g. is_first g none) ≡ false
unfolding some?
nobody_first zero = refl
nobody_first (suc n) = rw (nobody_first n)

somebody_first : (n : ℕ) (x : Option ℕ) → ((h : ℕ) → x ≡ some h → h < n) → some? n (λ g. is_first g x) ≡ not (is_none x)
somebody_first n none below = nobody_first n
somebody_first n (some h) below = is_true _ (some?_intro n (λ g. is_first g (some h)) h (below h refl) (eqb_refl h))

module _ (t : Tables) (j b : ℕ) where
  -- none of the boats below k is the first of those from k on
  first_from : (g k : ℕ) (xs : List ℕ) → g < k → is_first g (refuser t j b k xs) ≡ false
  first_from g k xs l = by (refuser t j b k xs) refl
    where
      by : (x : Option ℕ) → refuser t j b k xs ≡ x → is_first g x ≡ false
      by none e = refl
      by (some h) e = let w = refuser_some t j b k xs h e in ne_eqb h g (λ q. omega arith)

  -- the first that refuses among fewer boats
  first_take : (g h k : ℕ) (xs : List ℕ) → is_first g (refuser t j b k (take h xs)) ≡ (ltb g (k + h) && is_first g (refuser t j b k xs))
  unfolding refuser
  first_take g zero k xs = by (dec_lt g k)
    where
      by : Dec (g < k) → false ≡ (ltb g (k + 0) && is_first g (refuser t j b k xs))
      by (yes l) = sym (rw (first_from g k xs l) (and-false (ltb g (k + 0))))
      by (no nl) = rw (add-zero k, le-ltb g k (omega arith))
  first_take g (suc h) k [] = sym (and-false (ltb g (k + suc h)))
  first_take g (suc h) k (x ∷ xs) = by (may_stand t k x j b) (first_take g h (suc k) xs)
    where
      here : Dec (k ≡ g) → eqb k g ≡ (ltb g (k + suc h) && eqb k g)
      here (yes e) = rw (lt-ltb g (k + suc h) (omega arith))
      here (no ne) = rw (ne_eqb k g ne) (sym (and-false (ltb g (k + suc h))))

      by : (m : Bool) → is_first g (refuser t j b (suc k) (take h xs)) ≡ (ltb g (suc k + h) && is_first g (refuser t j b (suc k) xs)) →
          is_first g (cond m (refuser t j b (suc k) (take h xs)) (some k)) ≡ (ltb g (k + suc h) && is_first g (cond m (refuser t j b (suc k) xs) (some k)))
      by true rec = let z : k + suc h ≡ suc k + h = omega arith in rw z rec
      by false rec = here (ℕ_discrete k g)

  -- and among one boat more
  first_snoc : (g a k : ℕ) (xs : List ℕ) → is_first g (refuser t j b k (xs ++ (a ∷ []))) ≡
      (is_first g (refuser t j b k xs) || (eqb g (k + length xs) && is_none (refuser t j b k xs) && not (may_stand t (k + length xs) a j b)))
  unfolding refuser
  first_snoc g a k [] = rw (add-zero k) (by (may_stand t k a j b))
    where
      by : (m : Bool) → is_first g (cond m none (some k)) ≡ (false || (eqb g k && true && not m))
      by true = sym (and-false (eqb g k && true))
      by false = eqb_sym k g ∙ sym (simp and-true)
  first_snoc g a k (x ∷ xs) = by (may_stand t k x j b) (first_snoc g a (suc k) xs)
    where
      by : (m : Bool) →
          is_first g (refuser t j b (suc k) (xs ++ (a ∷ []))) ≡
          (is_first g (refuser t j b (suc k) xs) || (eqb g (suc k + length xs) && is_none (refuser t j b (suc k) xs) && not (may_stand t (suc k + length xs) a j b))) →
          is_first g (cond m (refuser t j b (suc k) (xs ++ (a ∷ []))) (some k)) ≡
          (is_first g (cond m (refuser t j b (suc k) xs) (some k)) ||
          (eqb g (k + suc (length xs)) && is_none (cond m (refuser t j b (suc k) xs) (some k)) && not (may_stand t (k + suc (length xs)) a j b)))
      by true rec = let z : k + suc (length xs) ≡ suc k + length xs = omega arith in rw z rec
      by false rec = simp (and-false, or-false)

-- the strikes know the plan so far
module _ (t : Tables) where
  -- at the start
  pub struck_start : Struck t [] no_strikes
  unfolding refuser
  struck_start g j b lj lb = rw (take-nil {A = ℕ} j)

  -- a choice is live where none of the boats placed before refuses it
  live_is : (p : List ℕ) (s : Strikes) → Struck t p s → (j b : ℕ) → j < boats t → b < choices t j → is_live t s j b ≡ is_open t (take j p) j b
  unfolding is_live is_open
  live_is p s K j b lj lb =
      rw (some?_same (boats t) (λ g. s g j b) (λ g. is_first g (refuser t j b 0 (take j p))) (λ g l. K g j b lj lb))
      (ap not (somebody_first (boats t) (refuser t j b 0 (take j p)) below) ∙ not-not (is_none (refuser t j b 0 (take j p))))
    where
      below : (h : ℕ) → refuser t j b 0 (take j p) ≡ some h → h < boats t
      below h e = let w = refuser_some t j b 0 (take j p) h e in omega (arith, simp length-take at w.2)

  -- a choice of a boat that is not placed is live where no placed boat refuses it
  pub live_same : (p : List ℕ) (s : Strikes) → Struck t p s → (j b : ℕ) → length p ≤ j → j < boats t → b < choices t j → is_live t s j b ≡ is_open t p j b
  live_same p s K j b l lj lb = live_is p s K j b lj lb ∙ rw (take_all j p l)

  -- a trial that passes
  pub struck_pass : (p : List ℕ) (s : Strikes) (a : ℕ) → Struck t p s → Struck t (p ++ (a ∷ [])) (struck t s (length p) a)
  unfolding struck is_open
  struck_pass p s a K g j b lj lb = by (dec_lt (length p) j)
    where
      off : (x e l v m : Bool) → (x || (e && false && l && v && m)) ≡ x
      off x e l v m = simp (and-false, or-false)

      new : (l : Bool) → is_listed t.pairs (length p) j ≡ l → (x e v : Bool) →
          (x || (e && true && l && v && not (may_stand t (length p) a j b))) ≡ (x || (e && v && not (may_stand t (length p) a j b)))
      new true l x e v = simp and-true
      new false l x e v = rw (may_unlisted t (length p) a j b l) (simp (and-false, or-false))

      by : Dec (length p < j) →
          (s g j b || (eqb g (length p) && ltb (length p) j && is_listed t.pairs (length p) j && is_live t s j b && not (may_stand t (length p) a j b))) ≡
          is_first g (refuser t j b 0 (take j (p ++ (a ∷ []))))
      by (yes l) =
          let le : length p ≤ j = omega arith in
          let old : s g j b ≡ is_first g (refuser t j b 0 p) = K g j b lj lb ∙ rw (take_all j p le) in
          let live : is_live t s j b ≡ is_none (refuser t j b 0 p) = live_same p s K j b le lj lb in
          let all : take j (p ++ (a ∷ [])) ≡ p ++ (a ∷ []) = take_all j (p ++ (a ∷ [])) (simp length-append (omega arith)) in
          rw (lt-ltb (length p) j l, all, live, old)
          (new (is_listed t.pairs (length p) j) refl (is_first g (refuser t j b 0 p)) (eqb g (length p)) (is_none (refuser t j b 0 p))
          ∙ sym (rw (zero-add (length p)) at (first_snoc t j b g a 0 p)))
      by (no nl) =
          let le : j ≤ length p = omega arith in
          rw (le-ltb (length p) j le, take-append-le j p (a ∷ []) le) (off (s g j b) (eqb g (length p)) _ _ _ ∙ K g j b lj lb)

  -- going back
  pub struck_back : (p : List ℕ) (s : Strikes) (h : ℕ) → Struck t p s → Struck t (take h p) (put_back_from h s)
  unfolding put_back_from
  struck_back p s h K g j b lj lb =
      rw (K g j b lj lb, take_swap j h p) (sym (rw (zero-add h) at (first_take t j b g h 0 (take j p))))

  -- ---- under what the strikes know, what forward checking does is what looking ahead by the plan does
  module _ (p : List ℕ) (s : Strikes) (K : Struck t p s) where
    -- the same boats are to blame
    pub strikers_same : (j : ℕ) → length p ≤ j → j < boats t → strikers t s j ≡ blamers_of t p j
    unfolding strikers blamers_of
    strikers_same j l lj =
        fun_ext (λ g. some?_same (choices t j) (λ b. s g j b) (λ b. is_first g (refuser t j b 0 p)) (λ b lb. K g j b lj lb ∙ rw (take_all j p l)))

    module _ (a : ℕ) where
      checks_same : (j : ℕ) → length p ≤ j → j < boats t → (b r : ℕ) → b + r ≤ choices t j → slot_checks t s (length p) a j b r ≡ open_checks t p a j b r
      unfolding slot_checks open_checks
      checks_same j l lj b zero e = refl
      checks_same j l lj b (suc r) e = rw (live_same p s K j b l lj (omega arith), checks_same j l lj (suc b) r (omega arith))

      stays_same : (j : ℕ) → length p ≤ j → j < boats t → choice_stays t s (length p) a j ≡ open_stays t p a j
      unfolding choice_stays open_stays
      stays_same j l lj =
          some?_same (choices t j) (λ b. is_live t s j b && may_stand t (length p) a j b) (λ b. is_open t p j b && may_stand t (length p) a j b)
          (λ b lb. rw (live_same p s K j b l lj lb))

      -- the same checks, and the same boat is emptied
      pub sweep_same : (j r : ℕ) → length p ≤ j → j + r ≤ boats t → sweep t s (length p) a j r ≡ open_sweep t p a j r
      unfolding sweep open_sweep
      sweep_same j zero l e = refl
      sweep_same j (suc r) l e =
          rw (checks_same j l (omega arith) 0 (choices t j) (omega arith), stays_same j l (omega arith), sweep_same (suc j) r (omega arith) (omega arith))

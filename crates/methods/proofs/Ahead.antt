-- Looking ahead by the plan so far is an honest forward move.
use mathlib.Core.Path.{◌≡◌, refl, sym, ap, subst}
use mathlib.Core.Bool.{Bool, true, false, ◌&&◌, ◌||◌}
use mathlib.Core.List.{List}
use mathlib.Core.Logic.{◌⊎◌, inl, inr}
use mathlib.Core.Option.{Option, none, some}
use mathlib.Mathlib.Data.Bool.Basic.{eq-false_of_not-eq-true}
use Prim.Native.Nat.{ℕ, zero, suc, ◌+◌, ◌-◌, ◌≤◌, ◌<◌}
use native.Mathlib.Omega.{arith}
use native.Mathlib.Decide.{ℕ_discrete}
use native.Mathlib.Nat.{le_of_lt, le_refl, zero-add}
use lib.Dec.{T, eqb→eq, eqb_refl}
use lib.ListN.{length}
use Rattle.problem.specs.Tables.{Tables, boats, is_listed}
use Rattle.problem.proofs.Places.{to_true}
use Rattle.methods.specs.Choices.{choices, may_stand}
use Rattle.methods.specs.Moves.{Boats, some?, fail}
use Rattle.methods.proofs.Runs.{at}
use Rattle.methods.proofs.Standing.{Stands}
use Rattle.methods.proofs.Sets.{or_left, or_right, or_cases, and_both}
use Rattle.methods.proofs.Sound.{Bars, Honest}
use Rattle.methods.proofs.Looking.{refuser_some, refuser_none}
use Rattle.methods.specs.ByPlan.{refuser, is_none, is_first, is_open, blamers_of, open_stays, open_sweep, end_of_open, ahead_by_plan}

-- ---- some number below n passes a test
pub some?_intro : (n : ℕ) (f : ℕ → Bool) (b : ℕ) → b < n → T (f b) → T (some? n f)
unfolding some?
some?_intro zero f b lb x = absurd (omega arith)
some?_intro (suc n) f b lb x = by (ℕ_discrete b n) (λ k. some?_intro n f b k x)
  where
    by : Dec (b ≡ n) → (b < n → T (some? n f)) → T (some? n f || f n)
    by (yes e) rec = or_right (some? n f) (f n) (rw e at x)
    by (no ne) rec = or_left (some? n f) (f n) (rec (omega arith))

pub some?_elim : (n : ℕ) (f : ℕ → Bool) → T (some? n f) → (b : ℕ) × (b < n) × T (f b)
unfolding some?
some?_elim zero f x = absurd x
some?_elim (suc n) f x = by (or_cases (some? n f) (f n) x) (some?_elim n f)
  where
    by : T (some? n f) ⊎ T (f n) → (T (some? n f) → (b : ℕ) × (b < n) × T (f b)) → (b : ℕ) × (b < suc n) × T (f b)
    by (inl x) rec = let y = rec x in (y.0, omega arith, y.2)
    by (inr x) rec = (n, omega arith, x)

-- no number below n does
pub some?_none : (n : ℕ) (f : ℕ → Bool) → some? n f ≡ false → (b : ℕ) → b < n → f b ≡ false
some?_none n f e b lb = eq-false_of_not-eq-true (λ g. rw e at (some?_intro n f b lb (to_true (f b) g)))

-- tests that agree below n
pub some?_same : (n : ℕ) (f g : ℕ → Bool) → ((b : ℕ) → b < n → f b ≡ g b) → some? n f ≡ some? n g
unfolding some?
some?_same zero f g e = refl
some?_same (suc n) f g e = rw (some?_same n f g (λ b l. e b (omega arith)), e n (le_refl (suc n)))

-- ---- the first boat that refuses
pub first_some : (h : ℕ) (x : Option ℕ) → T (is_first h x) → x ≡ some h
first_some h none u = absurd u
first_some h (some g) u = ap some (eqb→eq g h u)

pub none_of : (x : Option ℕ) → is_none x ≡ true → x ≡ none
none_of none e = refl
none_of (some h) e = let z : ◌≡◌ {A = ℕ} 0 1 = cc in absurd (omega arith)

module _ (t : Tables) where
  -- the first boat that refuses a choice of j is a blamer of j; and blamers are placed
  pub blamer : (p : List ℕ) (j b h : ℕ) → b < choices t j → refuser t j b 0 p ≡ some h → T (blamers_of t p j h)
  unfolding blamers_of
  blamer p j b h lb e = some?_intro (choices t j) (λ b. is_first h (refuser t j b 0 p)) b lb (rw e (eqb_refl h))

  pub blamers_below : (p : List ℕ) (j h : ℕ) → T (blamers_of t p j h) → h < length p
  unfolding blamers_of
  blamers_below p j h u =
      let y = some?_elim (choices t j) (λ b. is_first h (refuser t j b 0 p)) u in
      let w = refuser_some t j y.0 0 p h (first_some h (refuser t j y.0 0 p) y.2) in
      omega arith

  -- a plan that stands and agrees with p on the blamers of j has no struck choice at j
  pub unstruck : (p : List ℕ) (j : ℕ) → length p ≤ j → j < boats t → (q : List ℕ) → Stands t q → ((h : ℕ) → T (blamers_of t p j h) → at q h ≡ at p h) →
      T (is_open t p j (at q j))
  unfolding is_open
  unstruck p j lj jn q law agree = by (refuser t j (at q j) 0 p) refl
    where
      by : (x : Option ℕ) → refuser t j (at q j) 0 p ≡ x → T (is_none x)
      by none e = tt
      by (some h) e =
          let w = refuser_some t j (at q j) 0 p h e in
          let k : ℕ = w.0 in
          let hk : k ≡ h = omega arith in
          let lh : h < length p = omega arith in
          let refused : may_stand t h (at p h) j (at q j) ≡ false = rw hk at w.3 in
          let f : T (may_stand t h (at p h) j (at q j)) = rw (agree h (blamer p j (at q j) h (law.within j jn) e)) at (law.fine h j (omega arith) jn) in
          rw refused at f

  -- the boat that a sweep emptied: one of those swept over, and none of its live choices stays
  pub emptied_at : (p : List ℕ) (a k j r : ℕ) → (open_sweep t p a j r).emptied ≡ some k → (j ≤ k) × (k < j + r) × (open_stays t p a k ≡ false)
  unfolding open_sweep
  emptied_at p a k j zero e = let z : ◌≡◌ {A = ℕ} 0 1 = cc in absurd (omega arith)
  emptied_at p a k j (suc r) e = by (is_listed t.pairs (length p) j) refl (open_stays t p a j) refl (λ f. up (emptied_at p a k (suc j) r f))
    where
      up : (suc j ≤ k) × (k < suc j + r) × (open_stays t p a k ≡ false) → (j ≤ k) × (k < j + suc r) × (open_stays t p a k ≡ false)
      up w = (omega arith, omega arith, w.2)

      by : (l : Bool) → is_listed t.pairs (length p) j ≡ l → (b : Bool) → open_stays t p a j ≡ b →
          ((open_sweep t p a (suc j) r).emptied ≡ some k → (j ≤ k) × (k < j + suc r) × (open_stays t p a k ≡ false)) →
          (j ≤ k) × (k < j + suc r) × (open_stays t p a k ≡ false)
      by false l b m rec = rec (rw l at e)
      by true l true m rec = rec (rw (l, m) at e)
      by true l false m rec =
          let x : some j ≡ some k = rw (l, m) at e in
          let y : j ≡ k = cc in
          (omega arith, omega arith, rw (← y) m)

  -- a trial that fails has emptied a later boat, whose blamers are to blame
  pub trial_emptied : (p : List ℕ) (a : ℕ) (s : Boats) → ((ahead_by_plan t).trial tt p a).verdict ≡ fail s →
      (k : ℕ) × (length p < k) × (k < boats t) × (open_stays t p a k ≡ false) × (blamers_of t p k ≡ s)
  unfolding ahead_by_plan
  trial_emptied p a s e = by (open_sweep t p a (suc (length p)) (boats t - suc (length p))).emptied refl
    where
      by : (x : Option ℕ) → (open_sweep t p a (suc (length p)) (boats t - suc (length p))).emptied ≡ x →
          (k : ℕ) × (length p < k) × (k < boats t) × (open_stays t p a k ≡ false) × (blamers_of t p k ≡ s)
      by none f = let z : ◌≡◌ {A = ℕ} 0 1 = cc (rw f at e) in absurd (omega arith)
      by (some k) f =
          let w = emptied_at p a k (suc (length p)) (boats t - suc (length p)) f in
          let x : end_of_open t p (some k) ≡ fail s = rw f at e in
          (k, omega arith, omega arith, w.2, cc)

  ahead_failed : (p : List ℕ) (a : ℕ) (s : Boats) → length p < boats t → ((ahead_by_plan t).trial tt p a).verdict ≡ fail s → Bars t (λ j. T (s j)) p (length p) a
  unfolding open_stays
  ahead_failed p a s lp e q law agree ea =
      let w = trial_emptied p a s e in
      let k : ℕ = w.0 in
      let kn : k < boats t = w.2 in
      let lk : length p < k = w.1 in
      let live : T (is_open t p k (at q k)) = unstruck p k (le_of_lt lk) kn q law (λ h u. agree h (subst (λ (v : Boats). T (v h)) w.4 u)) in
      let may : T (may_stand t (length p) a k (at q k)) = rw ea at (law.fine (length p) k lk kn) in
      rw w.3 at
      (some?_intro (choices t k) (λ b. is_open t p k b && may_stand t (length p) a k b) (at q k) (law.within k kn)
      (and_both (is_open t p k (at q k)) (may_stand t (length p) a k (at q k)) live may))

  ahead_struck : (p : List ℕ) (a : ℕ) → length p < boats t → is_open t p (length p) a ≡ false → Bars t (λ j. T (blamers_of t p (length p) j)) p (length p) a
  ahead_struck p a lp e q law agree ea = rw (ea, e) at (unstruck p (length p) (le_refl (length p)) lp q law agree)

  ahead_below : (p : List ℕ) (a : ℕ) (s : Boats) → ((ahead_by_plan t).trial tt p a).verdict ≡ fail s → (j : ℕ) → T (s j) → j < length p
  ahead_below p a s e j u =
      let w = trial_emptied p a s e in
      blamers_below p w.0 j (subst (λ (v : Boats). T (v j)) (sym w.4) u)

  -- a choice that is live is allowed by every placed boat
  pub open_allowed : (p : List ℕ) (j b : ℕ) → is_open t p j b ≡ true → (h : ℕ) → h < length p → T (may_stand t h (at p h) j b)
  unfolding is_open
  open_allowed p j b e h lh = rw (zero-add h) at (refuser_none t j b 0 p (none_of (refuser t j b 0 p) e) h lh)

-- looking ahead by the plan is honest
pub ahead_honest : (t : Tables) → Honest t (ahead_by_plan t)
unfolding ahead_by_plan
ahead_honest t =
    record {
      blame_below = λ p j f u. blamers_below t p (length p) j u;
      struck = λ p a f lp la e. ahead_struck t p a lp e;
      fail_below = λ p a s f lp la e v. ahead_below t p a s v;
      failed = λ p a s f lp la e v. ahead_failed t p a s lp v;
      passed = λ p a f lp la e v. open_allowed t p (length p) a e;
    }

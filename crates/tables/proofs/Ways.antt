-- The ways in which a pair is bad, from the facts that the code tests, and back.
use mathlib.Core.Path.{◌≡◌, refl, sym, ap, ◌∙◌}
use mathlib.Core.Logic.{inl, inr, ⊎_elim}
use mathlib.Core.Bool.{Bool, true, false, ◌&&◌}
use mathlib.Core.List.{List, [], ◌∷◌}
use Prim.Native.Nat.{ℕ, zero, suc, ◌+◌, ◌-◌, ◌*◌, ◌≤◌, ◌<◌}
use native.Mathlib.Nat.{eq-or-lt_of_le, le_of_suc-le-suc}
use native.Mathlib.Omega.{arith}
use borrow.Author.Tests.{ltb-false, leb-false, eqb-false, lt-ltb, le-ltb, le-leb, lt-leb, eq-eqb, ne_eqb}
use lib.Dec.{leb}
use Rattle.problem.specs.Tables.{listed, lower, higher}
use Rattle.problem.specs.Rising.{Rising, Precedes}
use Rattle.problem.specs.Replies.{refusal_told}
use Rattle.problem.specs.declared.Refusal.{Refusal}
use Rattle.problem.specs.declared.Refusal.TheVariants.{PairNoBoat, PairSameBoat, PairHigherFirst, PairNotRising}
use Rattle.problem.proofs.Lowest.{not_both, lowest_here, lowest_none}
use Rattle.std.specs.Prelude.{Ok, Err}
use Rattle.tables.specs.Tests.{Fault, fault, first_fault, says, Test}
use Rattle.tables.specs.Applies.{Fails}
use Rattle.tables.specs.Examination.{names_no_boat, same_boat, higher_first, equal_or_below, not_rising, first_way_bad}
use Rattle.tables.specs.Ways.{IsWay, IsFirst}
use Rattle.tables.proofs.Bools.{or_here, or_rest, or_neither}

-- ---- the first of several faults
module _ (f : Fault) (fs : List Fault) where
  pub fault_here : f.cause ≡ true → first_fault (f ∷ fs) ≡ f
  fault_here e = ap (λ (b : Bool). elim b as (λ x. Fault) [ true ↦ f | false ↦ first_fault fs ]) e

  pub fault_later : f.cause ≡ false → first_fault (f ∷ fs) ≡ first_fault fs
  fault_later e = ap (λ (b : Bool). elim b as (λ x. Fault) [ true ↦ f | false ↦ first_fault fs ]) e

  pub faultless : (first_fault (f ∷ fs)).cause ≡ false → (f.cause ≡ false) × ((first_fault fs).cause ≡ false)
  faultless e = by f.cause refl
    where
      by : (b : Bool) → f.cause ≡ b → (f.cause ≡ false) × ((first_fault fs).cause ≡ false)
      by true c = absurd (not_both (ap (λ g. g.cause) (fault_here c) ∙ c) e)
      by false c = (c, sym (ap (λ g. g.cause) (fault_later c)) ∙ e)

-- ---- a look at all that a test looks at, the lowest first
module _ (test : Test) where
  pub way_first : {k : ℕ} → k < test.count → ((j : ℕ) → j < k → (test.at j).cause ≡ false) → (why : Refusal) → IsWay (Err why) (test.at k)
      → IsFirst (Err why) test
  way_first l f why is =
      let q = lowest_here test.count (λ j. (test.at j).cause) _ l f is.0 in
      (omega (arith, q), is.1 ∙ sym (ap (λ j. says (test.at j)) q))

  pub way_nowhere : Fails test → IsFirst (Ok tt) test
  way_nowhere f = omega (arith, lowest_none test.count (λ j. (test.at j).cause) f)

-- ---- 54: a pair equal to or below another, or above it
module _ (pairs : List ℕ) (k before : ℕ) where
  pub below_lower : lower pairs k < lower pairs before → equal_or_below pairs k before ≡ true
  below_lower l = or_here _ _ (lt-ltb _ _ l)

  pub below_higher : lower pairs k ≡ lower pairs before → equal_or_below pairs k before ≡ leb (higher pairs k) (higher pairs before)
  below_higher e =
      or_rest _ _ (le-ltb (lower pairs k) (lower pairs before) (omega arith))
      ∙ ap (λ b. b && leb (higher pairs k) (higher pairs before)) (eq-eqb _ _ e)

  pub below_neither : lower pairs before ≤ lower pairs k → (lower pairs k ≡ lower pairs before → ⊥) → equal_or_below pairs k before ≡ false
  below_neither l n = or_rest _ _ (le-ltb _ _ l) ∙ ap (λ b. b && leb (higher pairs k) (higher pairs before)) (ne_eqb _ _ n)

  pub above_precedes : equal_or_below pairs k before ≡ false → Precedes pairs before k
  above_precedes e =
      ⊎_elim (λ q. inr (q, leb-false _ _ (sym (below_higher (sym q)) ∙ e))) inl
      (eq-or-lt_of_le (ltb-false (lower pairs k) (lower pairs before) (or_neither _ _ e).0))

  pub precedes_above : Precedes pairs before k → equal_or_below pairs k before ≡ false
  precedes_above (inl l) = below_neither (omega arith) (λ e. omega arith)
  precedes_above (inr w) = below_higher (sym w.0) ∙ lt-leb _ _ w.1

-- ---- 54: the pair before
module _ (pairs : List ℕ) where
  pub none_before : (k : ℕ) → k ≡ 0 → not_rising pairs k ≡ false
  none_before k e = ap (not_rising pairs) e

  pub one_before : (k : ℕ) → (k ≡ 0 → ⊥) → not_rising pairs k ≡ equal_or_below pairs k (k - 1)
  one_before zero n = absurd (n refl)
  one_before (suc k) n = let e : k ≡ suc k - 1 = omega arith in ap (equal_or_below pairs (suc k)) e

  precedes_trans : (i j k : ℕ) → Precedes pairs i j → Precedes pairs j k → Precedes pairs i k
  precedes_trans i j k (inl p) (inl q) = inl (omega arith)
  precedes_trans i j k (inl p) (inr q) = inl (omega arith)
  precedes_trans i j k (inr p) (inl q) = inl (omega arith)
  precedes_trans i j k (inr p) (inr q) = inr (omega arith)

  pub above_rising : ((k : ℕ) → k < listed pairs → not_rising pairs k ≡ false) → Rising pairs
  above_rising above j zero h l = absurd (omega arith)
  above_rising above j (suc k) h l =
      let step = above_precedes pairs (suc k) k (above (suc k) l) in
      ⊎_elim (λ e. rw e step) (λ i. precedes_trans j k (suc k) (above_rising above j k i (omega arith)) step) (eq-or-lt_of_le (le_of_suc-le-suc h))

  pub rising_above : Rising pairs → (k : ℕ) → k < listed pairs → not_rising pairs k ≡ false
  rising_above rising zero l = refl
  rising_above rising (suc k) l = precedes_above pairs (suc k) k (rising k (suc k) (omega arith) l)

-- ---- 51 to 54: a pair
is_bad : (why : Refusal) {f g : Fault} → g ≡ f → f.cause ≡ true → refusal_told why ≡ says f → IsWay (Err why) g
is_bad why e c s = (ap (λ x. x.cause) e ∙ c, s ∙ sym (ap says e))

module _ (n : ℕ) (pairs : List ℕ) (k : ℕ) where
  abbrev is54 : Fault
  is54 = fault 54 (2 * k) (not_rising pairs k)

  abbrev is53 : Fault
  is53 = fault 53 (2 * k) (higher_first pairs k)

  abbrev is52 : Fault
  is52 = fault 52 (2 * k + 1) (same_boat pairs k)

  abbrev is51higher : Fault
  is51higher = fault 51 (2 * k + 1) (names_no_boat n (higher pairs k))

  abbrev is51lower : Fault
  is51lower = fault 51 (2 * k) (names_no_boat n (lower pairs k))

  pub way_51_lower : n ≤ lower pairs k → IsWay (Err (PairNoBoat (2 * k))) (first_way_bad n pairs k)
  unfolding first_way_bad
  way_51_lower h = let c = le-leb _ _ h in is_bad (PairNoBoat (2 * k)) (fault_here is51lower (is51higher ∷ is52 ∷ is53 ∷ is54 ∷ []) c) c refl

  module _ (lower_named_lem : lower pairs k < n) where
    past_51_lower : first_way_bad n pairs k ≡ first_fault (is51higher ∷ is52 ∷ is53 ∷ is54 ∷ [])
    unfolding first_way_bad
    past_51_lower = fault_later is51lower (is51higher ∷ is52 ∷ is53 ∷ is54 ∷ []) (lt-leb _ _ lower_named_lem)

    pub way_51_higher : n ≤ higher pairs k → IsWay (Err (PairNoBoat (2 * k + 1))) (first_way_bad n pairs k)
    way_51_higher h = let c = le-leb _ _ h in is_bad (PairNoBoat (2 * k + 1)) (past_51_lower ∙ fault_here is51higher (is52 ∷ is53 ∷ is54 ∷ []) c) c refl

    module _ (higher-named : higher pairs k < n) where
      past_51 : first_way_bad n pairs k ≡ first_fault (is52 ∷ is53 ∷ is54 ∷ [])
      past_51 = past_51_lower ∙ fault_later is51higher (is52 ∷ is53 ∷ is54 ∷ []) (lt-leb _ _ higher-named)

      pub way_52 : lower pairs k ≡ higher pairs k → IsWay (Err (PairSameBoat (2 * k + 1))) (first_way_bad n pairs k)
      way_52 e = let c = eq-eqb _ _ e in is_bad (PairSameBoat (2 * k + 1)) (past_51 ∙ fault_here is52 (is53 ∷ is54 ∷ []) c) c refl

      module _ (two : lower pairs k ≡ higher pairs k → ⊥) where
        past_52 : first_way_bad n pairs k ≡ first_fault (is53 ∷ is54 ∷ [])
        past_52 = past_51 ∙ fault_later is52 (is53 ∷ is54 ∷ []) (ne_eqb _ _ two)

        pub way_53 : higher pairs k < lower pairs k → IsWay (Err (PairHigherFirst (2 * k))) (first_way_bad n pairs k)
        way_53 l = let c = lt-ltb _ _ l in is_bad (PairHigherFirst (2 * k)) (past_52 ∙ fault_here is53 (is54 ∷ []) c) c refl

  -- two boats that are there, the lower first
  module _ (ordered : lower pairs k < higher pairs k) (named : higher pairs k < n) where
    past_53 : first_way_bad n pairs k ≡ first_fault (is54 ∷ [])
    past_53 = past_52 (omega arith) named (λ e. omega arith) ∙ fault_later is53 (is54 ∷ []) (le-ltb (higher pairs k) (lower pairs k) (omega arith))

    pub way_54 : not_rising pairs k ≡ true → IsWay (Err (PairNotRising (2 * k))) (first_way_bad n pairs k)
    way_54 c = is_bad (PairNotRising (2 * k)) (past_53 ∙ fault_here is54 [] c) c refl

    pub way_good : not_rising pairs k ≡ false → IsWay (Ok tt) (first_way_bad n pairs k)
    way_good c = ap (λ x. x.cause) (past_53 ∙ fault_later is54 [] c)

  pub good_pair : (first_way_bad n pairs k).cause ≡ false → (lower pairs k < higher pairs k) × (higher pairs k < n) × (not_rising pairs k ≡ false)
  unfolding first_way_bad
  good_pair e =
      let a = faultless is51lower (is51higher ∷ is52 ∷ is53 ∷ is54 ∷ []) e in
      let b = faultless is51higher (is52 ∷ is53 ∷ is54 ∷ []) a.1 in
      let c = faultless is52 (is53 ∷ is54 ∷ []) b.1 in
      let d = faultless is53 (is54 ∷ []) c.1 in
      let two = eqb-false (lower pairs k) (higher pairs k) c.0 in
      let l = ltb-false (higher pairs k) (lower pairs k) d.0 in
      (omega arith, leb-false _ _ b.0, (faultless is54 [] d.1).0)

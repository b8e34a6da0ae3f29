-- Against number 5 of document 01, which No. 1 of document 02 splits in four: the same tables are refused, at the same pair, and every other reply is what it was.
use mathlib.Core.Path.{◌≡◌, refl, sym, ap, ap₂, subst, ◌∙◌}
use mathlib.Core.Logic.{inl, inr, ⊎_elim}
use mathlib.Core.Bool.{Bool, true, false, not, ◌&&◌, ◌||◌}
use mathlib.Core.List.{List, [], ◌∷◌}
use Prim.Native.Nat.{ℕ, zero, suc, ◌+◌, ◌*◌, ◌/◌}
use native.Mathlib.Omega.{arith}
use borrow.Author.Tests.{ltb-true, leb-false, eqb-true, eqb-false, lt-ltb, le-ltb, lt-leb, eq-eqb}
use lib.Dec.{ltb, leb, eqb}
use lib.ListN.{get_or}
use Rattle.problem.specs.Tables.{Tables, boats, lower, higher}
use Rattle.problem.specs.Rising.{Precedes}
use Rattle.problem.specs.Replies.{Told, refused}
use Rattle.problem.proofs.Lowest.{not_both}
use Rattle.problem.proofs.Places.{both_true}
use Rattle.tables.specs.Tests.{Fault, first_fault, says}
use Rattle.tables.specs.Applies.{NoneApplies, nor, Gives, here, later}
use Rattle.tables.specs.Examination.{equal_or_below, not_rising, ways_bad, first_way_bad, tests, fine_told, examination}
use Rattle.tables.specs.Former.{is_above, not_above_pair_before, bad_pair, former_tests, former_examination, of_pairs, as_formerly}
use Rattle.tables.proofs.Bools.{or_here, or_rest, or_neither, neither_or}
use Rattle.tables.proofs.Ways.{fault_here, fault_later, above_precedes, precedes_above, way_good, good_pair}
use Rattle.tables.proofs.Laws.{none_fine, gives_first, first_gives}

-- ---- a reply of now as it was told then
as_5 : (w : Told) → of_pairs w.number ≡ true → as_formerly w ≡ refused 5 (get_or w.values 0 0 / 2)
as_5 w e = ap (λ (b : Bool). elim b as (λ x. Told) [ true ↦ refused 5 (get_or w.values 0 0 / 2) | false ↦ w ]) e

as_now : (w : Told) → of_pairs w.number ≡ false → as_formerly w ≡ w
as_now w e = ap (λ (b : Bool). elim b as (λ x. Told) [ true ↦ refused 5 (get_or w.values 0 0 / 2) | false ↦ w ]) e

-- ---- equal to or below is not above
module _ (pairs : List ℕ) (k before : ℕ) where
  is_above_precedes : is_above pairs k before ≡ true → Precedes pairs before k
  is_above_precedes e = by (ltb (lower pairs before) (lower pairs k)) refl e
    where
      by : (b : Bool) → ltb (lower pairs before) (lower pairs k) ≡ b
          → (b || (eqb (lower pairs before) (lower pairs k) && ltb (higher pairs before) (higher pairs k))) ≡ true → Precedes pairs before k
      by true q h = inl (ltb-true _ _ q)
      by false q h = let r = both_true _ _ h in inr (eqb-true _ _ r.0, ltb-true _ _ r.1)

  precedes_is_above : Precedes pairs before k → is_above pairs k before ≡ true
  precedes_is_above (inl l) = or_here _ _ (lt-ltb _ _ l)
  precedes_is_above (inr w) =
      or_rest _ _ (le-ltb (lower pairs before) (lower pairs k) (omega arith))
      ∙ ap₂ ◌&&◌ (eq-eqb _ _ w.0) (lt-ltb _ _ w.1)

  below_not_above : equal_or_below pairs k before ≡ not (is_above pairs k before)
  below_not_above = by (is_above pairs k before) refl (equal_or_below pairs k before) refl
    where
      by : (a : Bool) → is_above pairs k before ≡ a → (b : Bool) → equal_or_below pairs k before ≡ b → equal_or_below pairs k before ≡ not (is_above pairs k before)
      by true p b q = precedes_above pairs k before (is_above_precedes p) ∙ sym (ap not p)
      by false p true q = q ∙ sym (ap not p)
      by false p false q = absurd (not_both (precedes_is_above (above_precedes pairs k before q)) p)

rising_formerly : (pairs : List ℕ) (k : ℕ) → not_rising pairs k ≡ not_above_pair_before pairs k
rising_formerly pairs zero = refl
rising_formerly pairs (suc k) = below_not_above pairs (suc k) k

-- ---- a pair is bad now where it was bad then
module _ (n : ℕ) (pairs : List ℕ) (k : ℕ) where
  former_good : bad_pair n pairs k ≡ false → (first_way_bad n pairs k).cause ≡ false
  unfolding bad_pair
  former_good e =
      let q = or_neither _ _ e in
      let r = or_neither _ _ q.0 in
      let s = or_neither (leb n (lower pairs k)) _ r.1 in
      way_good n pairs k (leb-false _ _ r.0) (leb-false _ _ s.1) (rising_formerly pairs k ∙ q.1)

  good_formerly : (first_way_bad n pairs k).cause ≡ false → bad_pair n pairs k ≡ false
  unfolding bad_pair
  good_formerly e =
      let g = good_pair n pairs k e in
      neither_or _ _ (neither_or _ _ (lt-leb _ _ g.0) (neither_or _ _ (lt-leb n (lower pairs k) (omega arith)) (lt-leb _ _ g.1))) (sym (rising_formerly pairs k) ∙ g.2)

  pub bad_as_formerly : (first_way_bad n pairs k).cause ≡ bad_pair n pairs k
  bad_as_formerly = by (bad_pair n pairs k) refl (first_way_bad n pairs k).cause refl
    where
      by : (a : Bool) → bad_pair n pairs k ≡ a → (b : Bool) → (first_way_bad n pairs k).cause ≡ b → (first_way_bad n pairs k).cause ≡ bad_pair n pairs k
      by false p b q = former_good p ∙ sym p
      by true p true q = q ∙ sym p
      by true p false q = absurd (not_both p (good_formerly q))

  -- and each way that it is bad has one of the four numbers, and a byte of that pair
  abbrev OfPair : Fault → Type 0
  OfPair f = (of_pairs (says f).number ≡ true) × (f.place / 2 ≡ k)

  abbrev AllOfPair : List Fault → Type 0
  AllOfPair [] = Unit {0}
  AllOfPair (f ∷ fs) = OfPair f × AllOfPair fs

  first_of_pair : (fs : List Fault) → AllOfPair fs → (first_fault fs).cause ≡ true → OfPair (first_fault fs)
  first_of_pair [] all e = absurd (not_both e refl)
  first_of_pair (f ∷ fs) all e = by f.cause refl (first_of_pair fs all.1)
    where
      by : (b : Bool) → f.cause ≡ b → ((first_fault fs).cause ≡ true → OfPair (first_fault fs)) → OfPair (first_fault (f ∷ fs))
      by true c rest = subst OfPair (sym (fault_here f fs c)) all.0
      by false c rest = let l = fault_later f fs c in subst OfPair (sym l) (rest (ap (λ g. g.cause) (sym l) ∙ e))

  way_of_pair : (first_way_bad n pairs k).cause ≡ true → OfPair (first_way_bad n pairs k)
  unfolding first_way_bad
  way_of_pair =
      let first : 2 * k / 2 ≡ k = omega arith in
      let second : (2 * k + 1) / 2 ≡ k = omega arith in
      first_of_pair (ways_bad n pairs k) ((refl, first), ((refl, second), ((refl, second), ((refl, first), ((refl, first), tt)))))

  pub way_number : (first_way_bad n pairs k).cause ≡ true → of_pairs (says (first_way_bad n pairs k)).number ≡ true
  way_number e = (way_of_pair e).0

  way_as_5 : (first_way_bad n pairs k).cause ≡ true → as_formerly (says (first_way_bad n pairs k)) ≡ refused 5 k
  way_as_5 e = let p = way_of_pair e in as_5 (says (first_way_bad n pairs k)) p.0 ∙ ap (refused 5) p.1

-- ---- the tables
module _ (t : Tables) where
  same : (k : ℕ) → (first_way_bad (boats t) t.pairs k).cause ≡ bad_pair (boats t) t.pairs k
  same = bad_as_formerly (boats t) t.pairs

  none_formerly : NoneApplies (tests t) → NoneApplies (former_tests t)
  none_formerly (nor a (nor b (nor c (nor d rest)))) = nor a (nor b (nor c (nor (λ k l. sym (same k) ∙ d k l) rest)))

  gives_formerly : {w : Told} → Gives (tests t) w → Gives (former_tests t) (as_formerly w)
  gives_formerly (here k l p f) = here k l p f
  gives_formerly (later a (here k l p f)) = later a (here k l p f)
  gives_formerly (later a (later b (here k l p f))) = later a (later b (here k l p f))
  gives_formerly (later a (later b (later c (here k l p f)))) =
      subst (Gives (former_tests t)) (sym (way_as_5 (boats t) t.pairs k p))
      (later a (later b (later c (here k l (sym (same k) ∙ p) (λ j h. sym (same j) ∙ f j h)))))
  gives_formerly (later a (later b (later c (later d (here k l p f))))) =
      later a (later b (later c (later (λ k l. sym (same k) ∙ d k l) (here k l p f))))
  gives_formerly (later a (later b (later c (later d (later e (here k l p f)))))) =
      later a (later b (later c (later (λ k l. sym (same k) ∙ d k l) (later e (here k l p f)))))
  gives_formerly {w = w} (later a (later b (later c (later d (later e (later _ x28)))))) = elim x28 [ ]

  pub told_as_formerly : former_examination t ≡ as_formerly (examination t)
  unfolding former_examination examination
  told_as_formerly =
      ⊎_elim
      (λ n. none_fine (former_tests t) (fine_told t) (none_formerly n) ∙ ap as_formerly (sym (none_fine (tests t) (fine_told t) n)))
      (λ g. gives_first (former_tests t) (fine_told t) _ (gives_formerly g))
      (first_gives (tests t) (fine_told t))

  -- 5 is no longer given
  not_5 : {w : Told} → Gives (tests t) w → w.number ≡ 105 → ⊥
  not_5 (here k l p f) e = eqb-false 102 105 refl e
  not_5 (later a (here k l p f)) e = eqb-false 103 105 refl e
  not_5 (later a (later b (here k l p f))) e = eqb-false 104 105 refl e
  not_5 (later a (later b (later c (here k l p f)))) e =
      not_both (way_of_pair (boats t) t.pairs k p).0 (ap of_pairs e)
  not_5 (later a (later b (later c (later d (here k l p f))))) e = eqb-false 106 105 refl e
  not_5 (later a (later b (later c (later d (later g (here k l p f)))))) e = eqb-false 107 105 refl e
  not_5 {w = w} (later a (later b (later c (later d (later g (later _ x29)))))) e = elim x29 [ ]

  pub never_5 : (examination t).number ≡ 105 → ⊥
  unfolding examination
  never_5 e =
      ⊎_elim (λ n. eqb-false 0 105 refl (sym (ap (λ w. w.number) (none_fine (tests t) (fine_told t) n)) ∙ e)) (λ g. not_5 g e)
      (first_gives (tests t) (fine_told t))

  -- the tables refused by 51 to 54 are exactly those that 5 refused
  pub of_pairs_were_5 : of_pairs (examination t).number ≡ true → (former_examination t).number ≡ 105
  of_pairs_were_5 e = ap (λ w. w.number) (told_as_formerly ∙ as_5 (examination t) e)

  pub were_5_of_pairs : (former_examination t).number ≡ 105 → of_pairs (examination t).number ≡ true
  were_5_of_pairs e = by (of_pairs (examination t).number) refl
    where
      by : (b : Bool) → of_pairs (examination t).number ≡ b → of_pairs (examination t).number ≡ true
      by true q = q
      by false q = absurd (never_5 (ap (λ w. w.number) (sym (told_as_formerly ∙ as_now (examination t) q)) ∙ e))

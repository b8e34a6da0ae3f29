-- The first pair of a boat, and where its rows begin.
use mathlib.Core.Path.{◌≡◌, sym, ap, ◌∙◌}
use mathlib.Core.Logic.{⊎_elim}
use mathlib.Core.List.{List}
use Prim.Native.Nat.{ℕ, zero, suc, ◌+◌, ◌-◌, ◌*◌, ◌≤◌, ◌<◌}
use native.Mathlib.Nat.{eq-or-lt_of_le, le_refl, suc-mul}
use native.Mathlib.Decide.{dec_lt}
use native.Mathlib.Numerals.{add-one}
use native.Mathlib.Omega.{arith}
use borrow.Author.Tests.{le-leb, lt-leb, leb-true, leb-false}
use lib.Dec.{leb}
use Rattle.problem.specs.Tables.{size, listed, lower, start}
use Rattle.problem.specs.Rising.{Rising}
use Rattle.problem.proofs.Lowest.{lowest_le, lowest_fails, lowest_passes, lowest_here, lowest_none, lowest_before}
use Rattle.problem.proofs.Starts.{start_suc}
use Rattle.words.specs.Layout.{first_pair}

module _ (pairs : List ℕ) where
  pub first_le : (i : ℕ) → first_pair pairs i ≤ listed pairs
  unfolding first_pair
  first_le i = lowest_le (listed pairs) (λ k. leb i (lower pairs k))

  -- the pairs before it have lower boats below i
  pub first_below : (i k : ℕ) → k < first_pair pairs i → lower pairs k < i
  unfolding first_pair
  first_below i k l = leb-false i _ (lowest_fails (listed pairs) (λ k. leb i (lower pairs k)) k l)

  first_at : (i : ℕ) → first_pair pairs i < listed pairs → i ≤ lower pairs (first_pair pairs i)
  unfolding first_pair
  first_at i l = leb-true i _ (lowest_passes (listed pairs) (λ k. leb i (lower pairs k)) l)

  pub first_before : (i k : ℕ) → k < listed pairs → i ≤ lower pairs k → first_pair pairs i ≤ k
  unfolding first_pair
  first_before i k l h = lowest_before (listed pairs) (λ k. leb i (lower pairs k)) k l (le-leb i _ h)

  pub first_here : (i k : ℕ) → k < listed pairs → ((j : ℕ) → j < k → lower pairs j < i) → i ≤ lower pairs k → first_pair pairs i ≡ k
  unfolding first_pair
  first_here i k l below le =
      lowest_here (listed pairs) (λ k. leb i (lower pairs k)) k l (λ j lj. lt-leb i _ (below j lj)) (le-leb i _ le)

  pub first_none : (i : ℕ) → ((j : ℕ) → j < listed pairs → lower pairs j < i) → first_pair pairs i ≡ listed pairs
  unfolding first_pair
  first_none i below = lowest_none (listed pairs) (λ k. leb i (lower pairs k)) (λ j lj. lt-leb i _ (below j lj))

  pub first_next : (i : ℕ) → first_pair pairs i ≤ first_pair pairs (suc i)
  first_next i = by (dec_lt (first_pair pairs (suc i)) (first_pair pairs i))
    where
      by : Dec (first_pair pairs (suc i) < first_pair pairs i) → first_pair pairs i ≤ first_pair pairs (suc i)
      by (yes y) = absurd (omega (arith, first_below i (first_pair pairs (suc i)) y, first_at (suc i) (omega (arith, first_le i))))
      by (no n) = omega arith

  pub first_zero : first_pair pairs 0 ≡ 0
  first_zero = by (dec_lt 0 (listed pairs))
    where
      by : Dec (0 < listed pairs) → first_pair pairs 0 ≡ 0
      by (yes y) = first_here 0 0 y (λ j lj. absurd (omega arith)) (omega arith)
      by (no n) = omega (arith, first_le 0)

  module _ (rising : Rising pairs) where
    lower_mono : (j k : ℕ) → j ≤ k → k < listed pairs → lower pairs j ≤ lower pairs k
    lower_mono j k le l =
        ⊎_elim (λ e. rw e (le_refl _)) (λ lt. ⊎_elim (λ w. omega arith) (λ w. omega arith) (rising j k lt l)) (eq-or-lt_of_le le)

    -- the pairs from it on have no lower boat below i
    pub first_from : (i k : ℕ) → first_pair pairs i ≤ k → k < listed pairs → i ≤ lower pairs k
    first_from i k le l = omega (arith, first_at i (omega arith), lower_mono (first_pair pairs i) k le l)

    -- so those up to the first pair of the next boat have boat i
    pub first_same : (i k : ℕ) → first_pair pairs i ≤ k → k < first_pair pairs (suc i) → lower pairs k ≡ i
    first_same i k le lt = omega (arith, first_below (suc i) k lt, first_from i k le (omega (arith, first_le (suc i))))

-- ---- where the rows begin
module _ (sizes pairs : List ℕ) where
  -- over m pairs with the lower boat i
  start_run : (i k m : ℕ) → ((j : ℕ) → k ≤ j → j < k + m → lower pairs j ≡ i) → start sizes pairs (k + m) ≡ start sizes pairs k + m * size sizes i
  start_run i k zero same = let e : k + 0 ≡ k = omega arith in omega (arith, ap (start sizes pairs) e)
  start_run i k (suc m) same =
      let ih = start_run i k m (λ j le lt. same j le (omega arith)) in
      let e : k + suc m ≡ suc (k + m) = omega arith in
      let z = ap (size sizes) (same (k + m) (omega arith) (omega arith)) in
      omega (arith, ap (start sizes pairs) e, start_suc sizes pairs (k + m), suc-mul m (size sizes i))

  pub start_first : Rising pairs → (i : ℕ) → first_pair pairs i ≤ first_pair pairs (i + 1)
      → start sizes pairs (first_pair pairs (i + 1)) ≡ start sizes pairs (first_pair pairs i) + (first_pair pairs (i + 1) - first_pair pairs i) * size sizes i
  start_first rising i le =
      let k = first_pair pairs i in
      let m = first_pair pairs (i + 1) - k in
      let e : k + m ≡ first_pair pairs (i + 1) = omega arith in
      ap (start sizes pairs) (sym e) ∙ start_run i k m (λ j lo hi. first_same pairs rising i j lo (rw (← add-one i) (omega arith)))

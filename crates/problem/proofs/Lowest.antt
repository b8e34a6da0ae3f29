-- The laws of the lowest place where a test passes.
use mathlib.Core.Path.{◌≡◌, refl}
use mathlib.Core.Logic.{◌⊎◌, inl, inr}
use mathlib.Core.Bool.{Bool, true, false}
use Prim.Native.Nat.{ℕ, zero, suc, ◌+◌, ◌≤◌, ◌<◌}
use native.Mathlib.Nat.{eq-or-lt_of_le, le_of_suc-le-suc, lt_of_not-le, le_antisymm}
use native.Mathlib.Omega.{arith}
use Rattle.problem.specs.Lowest.{lowest_from, lowest}

-- a test does not both pass and fail
pub not_both : {b : Bool} → b ≡ true → b ≡ false → ⊥
not_both p q = let z : ◌≡◌ {A = ℕ} 0 1 = cc in omega arith

module _ (test : ℕ → Bool) where
  -- r is the lowest of the m places from k on
  pub record Lowest (k m r : ℕ) : Type 0 where
    pub from : k ≤ r
    pub upto : r ≤ k + m
    pub fails : (j : ℕ) → k ≤ j → j < r → test j ≡ false
    pub passes : r < k + m → test r ≡ true

  pub lowest_from_is : (k m : ℕ) → Lowest k m (lowest_from k m test)
  unfolding lowest_from
  lowest_from_is k zero = record { from = omega arith; upto = omega arith; fails = λ j p q. absurd (omega arith); passes = λ h. absurd (omega arith) }
  lowest_from_is k (suc m) = by (test k) refl (lowest_from_is (suc k) m)
    where
      by : (b : Bool) → test k ≡ b → Lowest (suc k) m (lowest_from (suc k) m test) → Lowest k (suc m) (elim b [ true ↦ k | false ↦ lowest_from (suc k) m test ])
      by true e ih = record { from = omega arith; upto = omega arith; fails = λ j p q. absurd (omega arith); passes = λ h. e }
      by false e ih = record {
        from = omega (arith, ih.from);
        upto = omega (arith, ih.upto);
        fails = λ j p q. here j (eq-or-lt_of_le p) q;
        passes = λ h. ih.passes (omega arith);
      }
        where
          here : (j : ℕ) → (k ≡ j) ⊎ (k < j) → j < lowest_from (suc k) m test → test j ≡ false
          here j (inl q) h = rw (← q) e
          here j (inr q) h = ih.fails j q h

  one_lowest : (k m r s : ℕ) → Lowest k m r → Lowest k m s → r ≤ s
  one_lowest k m r s a b = le_of_suc-le-suc (lt_of_not-le (λ h. not_both (b.passes (omega (arith, a.upto))) (a.fails s b.from h)))

  -- there is one lowest place
  pub lowest_from_at : (k m r : ℕ) → Lowest k m r → lowest_from k m test ≡ r
  lowest_from_at k m r l = le_antisymm (one_lowest k m _ r (lowest_from_is k m) l) (one_lowest k m r _ l (lowest_from_is k m))

module _ (n : ℕ) (test : ℕ → Bool) where
  lowest_is : Lowest test 0 n (lowest n test)
  unfolding lowest
  lowest_is = lowest_from_is test 0 n

  pub lowest_le : lowest n test ≤ n
  lowest_le = omega (arith, lowest_is.upto)

  pub lowest_fails : (j : ℕ) → j < lowest n test → test j ≡ false
  lowest_fails j h = lowest_is.fails j (omega arith) h

  pub lowest_passes : lowest n test < n → test (lowest n test) ≡ true
  lowest_passes h = lowest_is.passes (omega arith)

  -- it is found where every place below fails, and it passes
  pub lowest_here : (k : ℕ) → k < n → ((j : ℕ) → j < k → test j ≡ false) → test k ≡ true → lowest n test ≡ k
  unfolding lowest
  lowest_here k h fails passes =
      lowest_from_at test 0 n k (record { from = omega arith; upto = omega arith; fails = λ j a b. fails j b; passes = λ a. passes })

  -- and it is n where every place fails
  pub lowest_none : ((j : ℕ) → j < n → test j ≡ false) → lowest n test ≡ n
  unfolding lowest
  lowest_none fails =
      lowest_from_at test 0 n n (record { from = omega arith; upto = omega arith; fails = λ j a b. fails j b; passes = λ a. absurd (omega arith) })

  pub none_lowest : n ≤ lowest n test → (j : ℕ) → j < n → test j ≡ false
  none_lowest h j l = lowest_fails j (omega arith)

  -- where it passes at some place, the lowest is no later
  pub lowest_before : (k : ℕ) → k < n → test k ≡ true → lowest n test ≤ k
  lowest_before k h p = le_of_suc-le-suc (lt_of_not-le (λ g. not_both p (lowest_fails k g)))

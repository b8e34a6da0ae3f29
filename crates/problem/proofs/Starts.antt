-- Where the rows of a pair begin.
use mathlib.Core.Path.{◌≡◌, refl}
use mathlib.Core.Logic.{◌⊎◌, inl, inr}
use mathlib.Core.List.{List}
use Prim.Native.Nat.{ℕ, zero, suc, ◌+◌, ◌*◌, ◌≤◌, ◌<◌}
use native.Mathlib.Nat.{eq-or-lt_of_le, le_of_suc-le-suc, le_refl}
use native.Mathlib.Numerals.{add-one}
use native.Mathlib.Omega.{arith}
use Rattle.problem.specs.Lowest.{sum}
use Rattle.problem.specs.Tables.{Tables, size, listed, lower, start}
use Rattle.problem.specs.Sane.{Sane}
use Rattle.problem.proofs.Places.{lower_named_lem}

module _ (sizes pairs : List ℕ) where
  pub start_zero : start sizes pairs 0 ≡ 0
  unfolding start sum
  start_zero = refl

  pub start_suc : (k : ℕ) → start sizes pairs (suc k) ≡ start sizes pairs k + size sizes (lower pairs k)
  unfolding start sum
  start_suc k = refl

  pub start_next : (k : ℕ) → start sizes pairs (k + 1) ≡ start sizes pairs k + size sizes (lower pairs k)
  start_next k = rw add-one (start_suc k)

  pub start_mono : (j k : ℕ) → j ≤ k → start sizes pairs j ≤ start sizes pairs k
  start_mono j zero h = let e : j ≡ 0 = omega arith in rw e (le_refl _)
  start_mono j (suc k) h = by (eq-or-lt_of_le h) (start_mono j k)
    where
      by : (j ≡ suc k) ⊎ (j < suc k) → (j ≤ k → start sizes pairs j ≤ start sizes pairs k) → start sizes pairs j ≤ start sizes pairs (suc k)
      by (inl e) rec = rw e (le_refl _)
      by (inr l) rec = omega (arith, start_suc k, rec (le_of_suc-le-suc l))

  -- the rows of a listed pair end where those of the last one do, or before
  pub start_within : (k : ℕ) → k < listed pairs → start sizes pairs k + size sizes (lower pairs k) ≤ start sizes pairs (listed pairs)
  start_within k l = omega (arith, start_suc k, start_mono (suc k) (listed pairs) l)

-- at most 64 words a pair
pub start_few : (t : Tables) → Sane t → (k : ℕ) → k ≤ listed t.pairs → start t.sizes t.pairs k ≤ 64 * k
start_few t s zero le = omega (arith, start_zero t.sizes t.pairs)
start_few t s (suc k) le =
    omega (arith, start_suc t.sizes t.pairs k, s.few_slots (lower t.pairs k) (lower_named_lem t s k le), start_few t s k (omega arith))

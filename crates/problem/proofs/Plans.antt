-- There is at most one first plan.
use mathlib.Core.Path.{◌≡◌, sym}
use mathlib.Core.Logic.{◌⊎◌, inl, inr}
use mathlib.Core.List.{List}
use Prim.Native.Nat.{ℕ, ◌≤◌}
use native.Mathlib.Nat.{le_of_suc-le-suc, lt_of_not-le, le_antisymm}
use native.Mathlib.Omega.{arith}
use Rattle.problem.specs.Tables.{Tables}
use Rattle.problem.specs.Plans.{Before, First}

-- neither of two boats where plans differ, each the lowest, is below the other
before_le : (p q : List ℕ) (b : Before p q) (d : Before q p) → d.boat ≤ b.boat
before_le p q b d = le_of_suc-le-suc (lt_of_not-le (λ h. omega (arith, d.same b.boat h, b.less)))

before_once : (p q : List ℕ) → Before p q → Before q p → ⊥
before_once p q b d =
    let e : d.boat ≡ b.boat = le_antisymm (before_le p q b d) (before_le q p d b) in
    omega (arith, b.less, rw e at d.less)

pub first_unique : (t : Tables) (p q : List ℕ) → First t p → First t q → p ≡ q
first_unique t p q f g = by (f.first q g.lawful) (g.first p f.lawful)
  where
    by : (p ≡ q) ⊎ Before p q → (q ≡ p) ⊎ Before q p → p ≡ q
    by (inl e) h = e
    by (inr b) (inl e) = sym e
    by (inr b) (inr d) = absurd (before_once p q b d)

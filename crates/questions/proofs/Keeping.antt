-- What a plan reads of the rows, and that it is within them.
use mathlib.Core.Path.{◌≡◌, ap, ap₂, ◌∙◌}
use mathlib.Core.List.{List}
use Prim.Native.Nat.{ℕ, ◌+◌, ◌<◌}
use native.Mathlib.Omega.{arith}
use lib.ListN.{length, get_or}
use Rattle.problem.specs.Tables.{Tables, boats, size, listed, lower, higher, start, bit}
use Rattle.problem.specs.Sane.{Sane}
use Rattle.problem.specs.Plans.{slot, keeps, Plan}
use Rattle.problem.proofs.Places.{lower_named_lem}
use Rattle.problem.proofs.Starts.{start_next, start_within}

-- the pair k at hand has the lower boat low, and its rows begin at `at`
module _ (t : Tables) (k : ℕ) {at low : ℕ} (first : at ≡ start t.sizes t.pairs k) (e : low ≡ lower t.pairs k) where
  -- the rows of the next pair begin where those of this one end
  pub next_row : {count : ℕ} → count ≡ size t.sizes low → at + count ≡ start t.sizes t.pairs (k + 1)
  next_row f = omega (arith, start_next t.sizes t.pairs k, ap (size t.sizes) e)

  -- the plan gives that boat the slot a
  module _ (plan : List ℕ) {rows : List ℕ} (r : rows ≡ t.rows) {a : ℕ} (f : a ≡ slot plan low) where
    pub row_inside : Sane t → Plan t plan → k < listed t.pairs → at + a < length rows
    row_inside sane is_plan l =
        let named : low < boats t = omega (arith, lower_named_lem t sane k l) in
        let small : a < size t.sizes low = omega (arith, is_plan.within low named) in
        rw r (omega (arith, ap (size t.sizes) e, start_within t.sizes t.pairs k l, sane.row_words))

    -- the bit says whether the plan keeps the pair
    pub keeps_is : {high b : ℕ} → high ≡ higher t.pairs k → b ≡ slot plan high → bit (get_or rows (at + a) 0) b ≡ keeps t plan k
    keeps_is g h = rw r (ap₂ (λ (i j : ℕ). bit (get_or t.rows i 0) j) (ap₂ ◌+◌ first (f ∙ ap (slot plan) e)) (h ∙ ap (slot plan) g))

-- The causes of numbers 3 and 4, from the facts that the code tests, and back.
use mathlib.Core.Path.{◌≡◌}
use mathlib.Core.Bool.{false}
use mathlib.Core.List.{List}
use Prim.Native.Nat.{ℕ, ◌*◌, ◌%◌, ◌≤◌, ◌<◌}
use native.Mathlib.Omega.{arith}
use borrow.Author.Tests.{ltb-false, eqb-false, le-ltb, ne_eqb}
use lib.ListN.{length}
use Rattle.problem.specs.Tables.{size, listed}
use Rattle.tables.specs.Examination.{is_bad_size, bad_pair_bytes}
use Rattle.tables.proofs.Bools.{or_neither, neither_or}

-- ---- 3: a size
module _ (sizes : List ℕ) (i : ℕ) where
  pub size_good : (size sizes i ≡ 0 → ⊥) → size sizes i ≤ 64 → is_bad_size sizes i ≡ false
  size_good n l = neither_or _ _ (ne_eqb (size sizes i) 0 n) (le-ltb 64 (size sizes i) l)

  pub good_size : is_bad_size sizes i ≡ false → (0 < size sizes i) × (size sizes i ≤ 64)
  good_size e =
      let q = or_neither _ _ e in
      let n = eqb-false (size sizes i) 0 q.0 in
      (omega arith, ltb-false 64 (size sizes i) q.1)

-- ---- 4: the number of pair bytes
module _ (pairs : List ℕ) where
  pub bytes_good : length pairs ≡ 2 * listed pairs → listed pairs ≤ 2016 → bad_pair_bytes pairs ≡ false
  bytes_good e l = neither_or _ _ (ne_eqb (length pairs % 2) 1 (λ q. omega arith)) (le-ltb 4032 (length pairs) (omega arith))

  pub good_bytes : bad_pair_bytes pairs ≡ false → (length pairs ≡ 2 * listed pairs) × (length pairs ≤ 4032)
  good_bytes e =
      let q = or_neither _ _ e in
      let n = eqb-false (length pairs % 2) 1 q.0 in
      (omega arith, ltb-false 4032 (length pairs) q.1)

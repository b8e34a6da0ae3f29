-- The first pass says what comes of it; the second writes where every part is long enough.
use mathlib.Core.Path.{◌≡◌, ap, ◌∙◌}
use mathlib.Core.List.{◌++◌}
use Prim.Native.Nat.{◌+◌, ◌-◌}
use native.Mathlib.Omega.{arith}
use lib.ListN.{take, drop}
use Rattle.loading.proofs.Loading.{front, fitting, loaded}
use Rattle.loading.proofs.load.Goals as goal

pub slice_bounds-copy-end : goal.slice_bounds-copy-end
slice_bounds-copy-end c =
    let a = c.args in
    omega (
      arith,
      front a.file.now a.sizes.now a.pairs.now a.rows.now (λ i l. omega (arith, c.type_inv.file i)) _ _ _ c.in_ok-found.ensures (omega arith) (omega arith) (omega arith),
    )

pub fill_pairs-requires : goal.fill_pairs-requires
fill_pairs-requires c =
    let a = c.args in
    fitting a.file.now a.sizes.now a.pairs.now a.rows.now (λ i l. omega (arith, c.type_inv.file i)) _ _ _ c.in_ok-found.ensures (omega arith) (omega arith) (omega arith)

pub returns : goal.returns
returns c =
    let a = c.args in
    let n = c.in_ok-found.found.boats in
    let many : 3 + n - 3 ≡ n = omega arith in
    loaded a.file.now a.sizes.now a.pairs.now a.rows.now (λ i l. omega (arith, c.type_inv.file i)) _ _ _ c.in_ok-found.ensures (omega arith) (omega arith) (omega arith)
    _ _ _ (ap (λ sizes. sizes ++ drop n c.args.sizes.now) (c.copy.ensures ∙ ap (λ m. take m (drop 3 c.args.file.now)) many)) c.fill_pairs.ensures

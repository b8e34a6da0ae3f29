-- Every boat passed has a good size.
use mathlib.Core.Path.{◌≡◌, refl, sym, ap, ◌∙◌}
use mathlib.Core.Bool.{◌||◌}
use Prim.Native.Nat.{ℕ}
use native.Mathlib.Omega.{arith}
use lib.Dec.{eqb, ltb}
use lib.ListN.{length}
use Rattle.problem.specs.declared.Refusal.TheVariants.{Size}
use Rattle.tables.specs.Tests.{Test, each}
use Rattle.tables.specs.Examination.{is_bad_size}
use Rattle.tables.proofs.Ways.{way_first, way_nowhere}
use Rattle.tables.proofs.sizes.all_good.Goals as goal

pub returns-then-bad_size : goal.returns-then-bad_size
returns-then-bad_size c =
    let a = c.args in
    let l = c.loop-i in
    let sizes : Test = each 3 (length a.sizes.now) (is_bad_size a.sizes.now) in
    let told : c.bad_size.result ≡ is_bad_size a.sizes.now l.i =
    c.bad_size.ensures ∙ ap (λ (s : ℕ). eqb s 0 || ltb 64 s) c.size_of.ensures.0 in
    way_first sizes c.loop-i-test.true l.invariant (Size l.i) (sym told ∙ c.if-bad_size.true, refl)

pub returns : goal.returns
returns c =
    let a = c.args in
    let sizes : Test = each 3 (length a.sizes.now) (is_bad_size a.sizes.now) in
    way_nowhere sizes (λ j h. c.loop-i.invariant j (omega arith))

-- Every boat passed has a slot below its size.
use mathlib.Core.Path.{refl}
use native.Mathlib.Omega.{arith}
use borrow.Author.Tests.{le-leb}
use Rattle.problem.specs.declared.Refusal.TheVariants.{GivenSlot}
use Rattle.tables.proofs.Ways.{way_first, way_nowhere}
use Rattle.questions.proofs.Judging.{slot_test}
use Rattle.questions.proofs.given.slots_inside.Goals as goal

pub returns-then-sizes-i : goal.returns-then-sizes-i
returns-then-sizes-i c =
    let a = c.args in
    let l = c.loop-i in
    let bad = rw c.size_bytes-sizes.ensures at c.if-sizes-i.true in
    way_first (slot_test a.tables.now a.plan.now) (rw c.size_bytes-sizes.ensures at c.loop-i-test.true) l.invariant (GivenSlot l.i)
    (le-leb _ _ (omega arith), refl)

pub returns : goal.returns
returns c =
    let a = c.args in
    let end = rw c.size_bytes-sizes.ensures at c.loop-i-test.false in
    way_nowhere (slot_test a.tables.now a.plan.now) (λ j h. c.loop-i.invariant j (omega arith))

use Rattle.std.proofs.Common.{◌+◌, ◌≤◌, ◌<◌, length, arith}
use Rattle.words.specs.Layout.{word}
use Rattle.words.proofs.Triangle.{tri_small}
use Rattle.index.proofs.Linking.{row_none, row_index_few, row_past, row_link, row_all}
use Rattle.index.proofs.link_boat.Goals as goal
use Rattle.index.proofs.link_boat.Goals.{Then-index-ne0, then-index-ne0, else-index-ne0}

pub loop-h-init : goal.loop-h-init
loop-h-init c = row_none _ _ _

-- the word read is one more than a start of rows, and these are few
few : (c : Then-index-ne0) → word c.loop-h.work (c.row_at-row.result + c.loop-h.h) ≤ 129025
few c = row_index_few c.loop-h.invariant (omega arith) c.row_at-row.ensures (c.requires.by_index c.loop-h.h (omega arith)) c.requires.sane

pub overflow_mul-work : goal.overflow_mul-work
overflow_mul-work c = omega (arith, few c)

pub overflow_add-work : goal.overflow_add-work
overflow_add-work c = omega (arith, few (goal.at.overflow_add-work c).Then-index-ne0, c.requires.sane.few_boats)

pub loop-h-preserved : goal.loop-h-preserved
loop-h-preserved c =
    let room : 512 + c.loop-h.to < length c.loop-h.work = omega (arith, tri_small c.args.i (omega (arith, c.requires.sane.few_boats)), c.loop-h.invariant.few, c.loop-h.invariant.only.long) in
    let er = c.row_at-row.ensures in
    let d = c.requires.by_index c.loop-h.h c.loop-h-test.true in
    elim c.if-index-ne0.branch [
      | then-index-ne0 w ↦ rw (w.work-is, w.to-is) (row_link c.loop-h.invariant (omega arith) er d c.loop-h-test.true (omega arith) room)
      | else-index-ne0 w ↦ rw (w.work-is, w.to-is) (row_past c.loop-h.invariant (omega arith) er d c.loop-h-test.true w.if-index-ne0.false)
    ]

pub returns : goal.returns
returns c =
    let q = row_all c.loop-h.invariant (omega arith) (omega arith) in
    record { upper_bound = q.0; changed_only = q.1 }

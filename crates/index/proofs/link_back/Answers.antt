use Rattle.std.proofs.Common.{arith}
use Rattle.index.proofs.Linked.{linked_more}
use Rattle.index.proofs.link_back.Goals as goal

pub loop-i-preserved : goal.loop-i-preserved
loop-i-preserved c =
    let l = c.link_boat-at.ensures in
    linked_more c.boats-i-end.ensures.sane c.loop-i.invariant (omega arith) l.upper_bound l.changed_only

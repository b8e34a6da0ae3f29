use Rattle.std.proofs.Common.{◌+◌, ◌-◌, ◌*◌, ◌≤◌, arith}
use Rattle.chains.proofs.Ahead.{ahead_none, ahead_few, ahead_more}
use Rattle.chains.proofs.index_ahead.Goals as goal
use Rattle.chains.proofs.index_ahead.Goals.{After-size}

pub loop-i-init : goal.loop-i-init
loop-i-init c = ahead_none _

-- the rows are few
few : (c : After-size) → c.loop-i.start + (c.pairs_end-next.result - c.loop-i.k) * c.size.result ≤ 129024
few c = ahead_few c.boats-n.ensures.sane c.requires.used_in_bounds c.loop-i.invariant c.pairs_end-next.ensures c.size.ensures.value

pub overflow_mul-start : goal.overflow_mul-start
overflow_mul-start c = omega (arith, few c)

pub overflow_add-start : goal.overflow_add-start
overflow_add-start c = omega (arith, few (goal.at.overflow_add-start c).After-size)

pub loop-i-preserved : goal.loop-i-preserved
loop-i-preserved c = ahead_more c.boats-n.ensures.sane c.requires.used_in_bounds c.loop-i.invariant c.pairs_end-next.ensures c.size.ensures.value (omega arith)

use Rattle.std.proofs.Common.{arith}
use Rattle.chains.proofs.Chain.{chain_none, chain_more, chain_all}
use Rattle.chains.proofs.chain_ahead.Goals as goal

pub loop-k-init : goal.loop-k-init
loop-k-init c = chain_none c.loop-j.invariant (omega arith)

pub loop-k-preserved : goal.loop-k-preserved
loop-k-preserved c = chain_more c.pairs-k-end.ensures.sane c.loop-k.invariant (omega arith) (omega (arith, c.higher-last.ensures.value)) (omega (arith, c.loop-j.invariant.only.long))

pub returns-clause-chained : goal.returns-clause-chained
returns-clause-chained c = chain_all c.pairs-k-end.ensures.sane c.loop-k.invariant (omega arith)

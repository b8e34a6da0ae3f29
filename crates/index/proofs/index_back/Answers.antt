use Rattle.std.proofs.Common.{ap, ◌∙◌, arith}
use Rattle.problem.specs.Tables.{size}
use Rattle.words.specs.Places.{tri}
use Rattle.index.proofs.Back.{back_none, back_more, back_all}
use Rattle.index.proofs.index_back.Goals as goal

pub loop-k-init : goal.loop-k-init
loop-k-init c = back_none c.pairs-k-end.ensures.sane _ c.requires.used_in_bounds.1

pub loop-k-preserved : goal.loop-k-preserved
loop-k-preserved c =
    back_more c.pairs-k-end.ensures.sane c.loop-k.invariant c.requires.used_in_bounds.0 (omega arith) (omega (arith, ap tri c.higher.ensures.value))
    (c.size-start.ensures.value ∙ ap (size c.args.tables.now.sizes) c.lower-low.ensures.value)

pub returns-clause-indexed : goal.returns-clause-indexed
returns-clause-indexed c = back_all c.pairs-k-end.ensures.sane c.loop-k.invariant (omega arith)

use Rattle.std.proofs.Common.{◌+◌, ◌≤◌, sym, ◌∙◌, arith}
use Rattle.problem.specs.Tables.{lower}
use Rattle.words.proofs.Firsts.{first_le, first_below, first_from, first_here, first_none}
use Rattle.chains.proofs.pairs_end.Goals as goal

pub loop-k-init : goal.loop-k-init
loop-k-init c j l = omega (arith, first_below c.args.tables.now.pairs c.args.boat j (omega arith))

pub returns-then-lower-boat : goal.returns-then-lower-boat
returns-then-lower-boat c =
    let pairs = c.args.tables.now.pairs in
    let k = c.loop-k.k in
    let from : c.args.boat ≤ lower pairs k = first_from pairs c.pairs-count.ensures.sane.rising c.args.boat k (omega arith) (omega arith) in
    (omega arith, sym (first_here pairs (c.args.boat + 1) k (omega arith) c.loop-k.invariant (omega arith)))

pub returns : goal.returns
returns c =
    let pairs = c.args.tables.now.pairs in (
      omega (arith, first_le pairs c.args.boat),
      c.pairs-count.ensures.value ∙ sym (first_none pairs (c.args.boat + 1) (λ j h. c.loop-k.invariant j (omega arith))),
    )

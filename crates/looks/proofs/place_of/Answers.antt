-- Every pair passed is not the one looked for.
use mathlib.Core.Path.{sym, ◌∙◌}
use native.Mathlib.Omega.{arith}
use Rattle.problem.specs.Tables.{listed, is_pair, place}
use Rattle.problem.proofs.Lowest.{lowest_here, lowest_none}
use Rattle.problem.proofs.Places.{pair_here}
use Rattle.looks.proofs.place_of.Goals as goal

pub returns-then-higher_of-high : goal.returns-then-higher_of-high
unfolding place
returns-then-higher_of-high c =
    let a = c.args in
    let l = c.loop-k in (
      c.loop-k-test.true,
      sym (lowest_here (listed a.pairs.now) (is_pair a.pairs.now a.low a.high) l.k c.loop-k-test.true l.invariant
          (pair_here a.pairs.now a.low a.high l.k
          (sym c.lower_of.ensures.0 ∙ c.if-lower_of-low.true)
          (sym c.higher_of.ensures.0 ∙ c.if-higher_of-high.true))),
    )

pub returns : goal.returns
unfolding place
returns c =
    let a = c.args in
    lowest_none (listed a.pairs.now) (is_pair a.pairs.now a.low a.high) (λ j h. c.loop-k.invariant j (omega arith))

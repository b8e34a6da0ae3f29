-- Every pair passed is kept, and the rows of the pair at hand begin at the word at hand.
use mathlib.Core.Path.{◌≡◌, sym, ap, ◌∙◌}
use mathlib.Core.Bool.{not}
use native.Mathlib.Omega.{arith}
use Rattle.problem.specs.Plans.{keeps}
use Rattle.problem.proofs.Lowest.{lowest_here, lowest_none}
use Rattle.problem.proofs.Starts.{start_zero}
use Rattle.questions.specs.Questions.{broken}
use Rattle.questions.proofs.Keeping.{keeps_is}
use Rattle.questions.proofs.given.lowest_broken.Goals as goal

pub loop-k-init : goal.loop-k-init
loop-k-init c = (sym (start_zero _ _), λ j l. absurd (omega arith))

pub returns-then-not-bit : goal.returns-then-not-bit
unfolding broken
returns-then-not-bit c =
    let a = c.args in
    let l = c.loop-k in
    let kept : c.bit.result ≡ keeps a.tables.now a.plan.now l.k =
    c.bit.ensures
    ∙ keeps_is a.tables.now l.k l.invariant.0 c.lower-low.ensures.value a.plan.now c.row_words-rows.ensures c.from.ensures
    c.higher.ensures.value c.from-in-loop-k.ensures in
    (omega arith, sym (lowest_here _ _ l.k (omega arith) l.invariant.1 (ap not (sym kept ∙ c.if-not-bit.true))))

pub returns : goal.returns
unfolding broken
returns c = lowest_none _ _ (λ j h. c.loop-k.invariant.1 j (omega arith))

-- The words counted are those of the pairs passed.
use mathlib.Core.Path.{◌≡◌, sym, ap, ◌∙◌}
use native.Mathlib.Omega.{arith}
use Rattle.problem.specs.Tables.{size, lower}
use Rattle.problem.proofs.Starts.{start_zero, start_next}
use Rattle.looks.proofs.start_of.Goals as goal

pub loop-k-init : goal.loop-k-init
loop-k-init c = (omega arith, sym (start_zero _ _))

pub loop-k-preserved : goal.loop-k-preserved
loop-k-preserved c =
    let a = c.args in
    let l = c.loop-k in
    let s : c.size_of-words.result ≡ size a.sizes.now (lower a.pairs.now l.k) =
    c.size_of-words.ensures.0 ∙ ap (size a.sizes.now) c.lower_of.ensures.0 in
    (omega arith, omega (arith, start_next a.sizes.now a.pairs.now l.k, l.invariant.1))

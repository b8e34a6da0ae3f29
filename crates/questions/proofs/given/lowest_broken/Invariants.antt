-- Every pair passed is kept, and the rows of the pair at hand begin at the word at hand.
use mathlib.Core.Path.{◌≡◌}
use mathlib.Core.Bool.{not, false}
use Prim.Native.Nat.{ℕ, ◌<◌}
use Rattle.problem.specs.Tables.{start}
use Rattle.problem.specs.Plans.{keeps}
use Rattle.questions.proofs.given.lowest_broken.Given as goal

abbrev pub invariant-loop-k : goal.invariant-loop-k
invariant-loop-k l =
    (l.start ≡ Rattle.problem.specs.Tables.start l.tables.sizes l.tables.pairs l.k)
    × ((j : ℕ) → j < l.k → not (keeps l.tables l.plan j) ≡ false)

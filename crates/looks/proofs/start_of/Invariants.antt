-- The words counted are those of the pairs passed.
use mathlib.Core.Path.{◌≡◌}
use Prim.Native.Nat.{◌*◌, ◌≤◌}
use Rattle.problem.specs.Tables.{start}
use Rattle.looks.proofs.start_of.Given as goal

abbrev pub invariant-loop-k : goal.invariant-loop-k
invariant-loop-k l = (l.words ≤ 255 * l.k) × (l.words ≡ start l.sizes l.pairs l.k)

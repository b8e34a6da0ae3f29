-- The walk of the words, pair by pair.
use Rattle.problem.specs.Tables.{tables}
use Rattle.tables.proofs.Words.{Walked}
use Rattle.tables.proofs.rows.all_good.Given as goal

abbrev pub invariant-loop-k : goal.invariant-loop-k
invariant-loop-k g l = Walked (tables l.sizes l.pairs l.rows) l.k l.from

-- The first k words are read, and the rows after them are as they were.
use Rattle.files.specs.Bytes.{words_of}
use Rattle.loading.proofs.Filling.{FirstOf}
use Rattle.loading.proofs.fill_rows.Given as goal

abbrev pub invariant-loop-k : goal.invariant-loop-k
invariant-loop-k l = FirstOf (words_of l.k-end l.words) l.initial.rows l.k l.rows

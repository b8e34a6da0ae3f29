-- k words are there.
use Rattle.files.specs.Bytes.{joined}
use Rattle.writer.proofs.Puts.{Puts, row_bytes}
use Rattle.writer.proofs.put_words.Given as goal

abbrev pub invariant-loop-k : goal.invariant-loop-k
invariant-loop-k l = Puts (joined l.k (row_bytes l.rows)) 0 l.initial.file l.file

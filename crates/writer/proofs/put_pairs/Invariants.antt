-- At every pair the PRs before it are there.
use Rattle.writer.proofs.Pairs.{AtPair}
use Rattle.writer.proofs.put_pairs.Given as goal

abbrev pub invariant-loop-k : goal.invariant-loop-k
invariant-loop-k l = AtPair l.tables l.initial.file l.file l.at l.start l.k

-- No more words are counted than were looked at.
use Rattle.std.proofs.Common.{◌≤◌}
use Rattle.vectors.proofs.lent.not_zero.Given as goal

abbrev pub invariant-loop-word : goal.invariant-loop-word
invariant-loop-word l = l.count ≤ l.word-index

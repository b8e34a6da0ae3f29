-- The pairs passed have their boats to blame.
use Rattle.live_words.proofs.Blamed.{BlamedTo}
use Rattle.live_words.proofs.blaming.blame_listed.Given as goal

abbrev pub invariant-loop-pair : goal.invariant-loop-pair
invariant-loop-pair l = BlamedTo l.tables l.i l.initial.work l.work l.end l.pair

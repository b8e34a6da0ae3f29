-- The boats passed have all their slots.
use Rattle.live_words.proofs.Filled.{FilledTo}
use Rattle.live_words.proofs.fill_slots.Given as goal

abbrev pub invariant-loop-j : goal.invariant-loop-j
invariant-loop-j l = FilledTo l.tables l.initial.work l.work l.j

use Rattle.live_words.proofs.Filled.{filled_all}
use Rattle.live_words.proofs.fill_slots.Goals as goal

pub returns-clause-lives : goal.returns-clause-lives
returns-clause-lives c = filled_all c.loop-j.invariant (rw (← c.boats-j-end.ensures.value) c.loop-j-test.false)

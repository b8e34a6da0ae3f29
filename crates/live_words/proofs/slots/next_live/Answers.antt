-- The slots passed over are digits below the lowest that is set.
use Rattle.live_words.proofs.Words.{next_is}
use Rattle.live_words.proofs.slots.next_live.Goals as goal

pub returns : goal.returns
returns c = next_is c.args.live c.args.from c.ranges.live.fits

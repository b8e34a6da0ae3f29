-- From the count of leading zeros.
use Rattle.words.proofs.Bits.{deepest_top}
use Rattle.words.proofs.sets.deepest_of.Goals as goal

pub returns : goal.returns
returns c = (deepest_top c.args.set c.requires c.ranges.set.fits).1

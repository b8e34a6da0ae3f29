-- The union with a single boat.
use Rattle.words.proofs.Bits.{shl_one, inserted}
use Rattle.words.proofs.sets.with_member.Goals as goal

pub returns : goal.returns
returns c = rw (shl_one c.args.h c.requires) (inserted c.args.set c.args.h)

-- The union less its deepest member is what lies below that member.
use native.Mathlib.Omega.{arith}
use Rattle.words.proofs.Bits.{shl_one, or_ge, handed}
use Rattle.words.proofs.sets.handed_down.Goals as goal

pub overflow_sub-result : goal.overflow_sub-result
overflow_sub-result c = rw (shl_one c.args.h c.requires.h_bound) (omega (arith, or_ge c.args.set c.args.of_h))

pub returns : goal.returns
returns c = rw (shl_one c.args.h c.requires.h_bound) (handed c.args.set c.args.of_h c.args.h c.requires.h_bound_2.0 c.requires.h_bound_2.1 c.requires.of_h_bound)

-- The formula of the triangular numbers.
use native.Mathlib.Omega.{arith}
use Rattle.words.proofs.Triangle.{tri_twice}
use Rattle.words.proofs.places.row_at.Goals as goal

pub returns : goal.returns
returns c = omega (arith, tri_twice c.args.boat)

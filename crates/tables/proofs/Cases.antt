-- The numbers and bytes of specs/Cases.antt are those that the definitions say: computed from them.
use Rattle.std.specs.Prelude.{◌≡◌, refl, map}
use Rattle.problem.specs.Replies.{refused}
use Rattle.tables.specs.Cases.{said_of, bad_pairs}

pub bad_pairs_said : map said_of bad_pairs ≡ map (λ c. refused c.number c.byte) bad_pairs
unfolding said_of bad_pairs
bad_pairs_said = refl

-- The words as a search begins with them.
use Rattle.std.specs.Prelude.{◌≡◌, List, [], ℕ}
use Rattle.problem.specs.Tables.{Tables}
use Rattle.words.specs.Places.{starts, lives, used}
use Rattle.words.specs.Layout.{ChangedOnly, Firsts, Chained}
use Rattle.live_words.specs.Lives.{Lives}
use Rattle.moves.specs.declared.Moves.{Moves}
use Rattle.moves.specs.Memory.{steps_by, memory, Kept}

pub record PreparedAhead (t : Tables) (w w' : List ℕ) : Type 0 where
  pub only : ChangedOnly starts lives w w'
  pub firsts : Firsts t w'
  pub chained : Chained t w'
  pub lives : Lives t w' [] 0

pub record Prepared (moves : Moves) (t : Tables) (w w' : List ℕ) : Type 0 where
  pub kept : Kept moves t w' 0
  pub fresh : memory moves w' 0 ≡ (steps_by moves t).start
  pub only : ChangedOnly 0 used w w'

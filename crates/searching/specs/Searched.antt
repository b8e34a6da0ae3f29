-- Where a search from the beginning ends.
use Rattle.std.specs.Prelude.{List, [], ℕ}
use Rattle.problem.specs.Tables.{Tables}
use Rattle.events.specs.declared.Counts.{Counts}
use Rattle.moves.specs.declared.Moves.{Moves}
use Rattle.moves.specs.Memory.{steps_by}
use Rattle.ends.specs.declared.Ended.{Ended}
use Rattle.walk.specs.Walks.{Ends}

abbrev pub Searched : (moves : Moves) → Tables → List ℕ → Counts → List ℕ → Ended → Type 0
Searched moves t w m w' r = Ends moves t [] 0 (steps_by moves t).start w m w' r

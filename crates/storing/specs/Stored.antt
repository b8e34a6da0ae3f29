-- What is stored of a visit, and the set that it begins with.
use Rattle.std.specs.Prelude.{List, ℕ, set}
use Rattle.words.specs.Places.{set_at, next_set_at}
use Rattle.words.specs.Layout.{word}
use Rattle.visits.specs.declared.Backward.{Backward}
use Rattle.visits.specs.declared.Backward.TheVariants.{OneBack, BySets}
use Rattle.moves.specs.declared.Moves.{Moves}
use Rattle.moves.specs.declared.Moves.TheVariants.{LookingBack, Marking, LookingAhead}

-- slot b of boat i has passed: it is held, with the set s, and the next boat's set is empty
abbrev pub passed_words : List ℕ → (i b s : ℕ) → List ℕ
passed_words w i b s = set (set (set w i b) (set_at i) s) (next_set_at i) 0

-- boat i keeps the set s
abbrev pub set_stored : List ℕ → (i s : ℕ) → List ℕ
set_stored w i s = set w (set_at i) s

-- the run ends at a slot of boat i, with the set s in hand: the boat keeps it. (BM has no sets, and b in their place)
abbrev pub kept_words : Moves → List ℕ → (i s : ℕ) → List ℕ
kept_words (LookingBack backward) w i s = set_stored w i s
kept_words Marking w i s = w
kept_words (LookingAhead backward) w i s = set_stored w i s

-- the boat's own set, where the way back goes by sets
abbrev pub set_begun_with : Backward → List ℕ → (i : ℕ) → ℕ
set_begun_with OneBack w i = 0
set_begun_with BySets w i = word w (set_at i)

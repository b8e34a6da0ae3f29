-- What a visit leaves in the live words.
use Rattle.std.specs.Prelude.{List, [], ◌∷◌, ◌++◌, ℕ, suc, take}
use Rattle.problem.specs.Tables.{Tables}
use Rattle.visits.specs.declared.Visited.{Visited}
use Rattle.visits.specs.declared.Visited.TheVariants.{Passed, Spent, OutOfChecks, OutOfTrials}
use Rattle.live_words.specs.Lives.{Lives}

-- a slot that passed has the words of its boat's pairs right. (Those that the boats below left are not written: that is the other promise)
abbrev pub LivesAfter : Tables → (w : List ℕ) → (i : ℕ) → (w' : List ℕ) → Visited → Type 0
LivesAfter t w i w' (Passed k u b) = Lives t w' (take i w ++ (b ∷ [])) (suc i)
LivesAfter t w i w' (Spent k u) = Unit {0}
LivesAfter t w i w' (OutOfChecks k u b made) = Unit {0}
LivesAfter t w i w' (OutOfTrials k u b) = Unit {0}

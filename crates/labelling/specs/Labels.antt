-- What label comes to, for every method, over the words.
use Rattle.std.specs.Prelude.{◌≡◌, List, [], ◌∷◌, ◌++◌, ℕ, suc, take}
use Rattle.problem.specs.Tables.{Tables}
use Rattle.problem.specs.declared.Allowance.{Allowance}
use Rattle.problem.specs.declared.Allowance.TheVariants.{Checks, Trials}
use Rattle.events.specs.declared.Counts.{Counts}
use Rattle.words.specs.Places.{used}
use Rattle.words.specs.Layout.{ChangedOnly}
use Rattle.visits.specs.Visits.{Passes, Spends, RunsOut}
use Rattle.moves.specs.declared.Moves.{Moves}
use Rattle.moves.specs.Memory.{steps_by, memory, Kept}
use Rattle.storing.specs.Stored.{kept_words}
use Rattle.labelling.specs.declared.Labelled.{Labelled}
use Rattle.labelling.specs.declared.Labelled.TheVariants.{Passed, Spent, OutOfChecks, OutOfTrials}

-- boat i, from slot a on, under the words w and the counts m
module _ (moves : Moves) (t : Tables) (w : List ℕ) (i a : ℕ) (m : Counts) where
  -- a slot passed: it is the next boat's turn; the words hold the slot
  pub record MovesOn (w' : List ℕ) (k : Counts) : Type 0 where
    pub slot : ℕ
    pub placed : take (suc i) w' ≡ take i w ++ (slot ∷ [])
    pub only : ChangedOnly 0 used w w'
    pub kept : Kept moves t w' (suc i)
    pub passes : Passes t (steps_by moves t) (take i w) a (memory moves w i) m slot (memory moves w' (suc i)) k

  -- no slot is left
  pub record NoneLeft (w' : List ℕ) (k : Counts) : Type 0 where
    pub same : take i w' ≡ take i w
    pub only : ChangedOnly 0 used w w'
    pub kept : Kept moves t w' i
    pub spends : Spends t (steps_by moves t) (take i w) a (memory moves w i) m (memory moves w' i) k

  -- an allowance ran out at slot b: so many events of its step are made
  pub record Halts (w' : List ℕ) (which : Allowance) (b made : ℕ) (k : Counts) : Type 0 where
    pub same : take i w' ≡ take i w
    pub only : ChangedOnly 0 used w w'
    pub kept : Kept moves t w' i
    pub runs_out : RunsOut t (steps_by moves t) (take i w) a (memory moves w i) m which b (memory moves w' i) made k

  -- where the run ends, the words are still to be given the set in hand
  abbrev pub Labels : (w' : List ℕ) → Labelled → Type 0
  Labels w' (Passed k) = MovesOn w' k
  Labels w' (Spent k) = NoneLeft w' k
  Labels w' (OutOfChecks k s b made) = Halts (kept_words moves w' i s) Checks b made k
  Labels w' (OutOfTrials k s b) = Halts (kept_words moves w' i s) Trials b 0 k

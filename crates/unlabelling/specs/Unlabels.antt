-- What unlabel leads to, for every method.
use Rattle.std.specs.Prelude.{◌≡◌, List, ℕ, suc, ◌≤◌, ◌<◌, length, take}
use Rattle.problem.specs.Tables.{Tables, boats}
use Rattle.problem.specs.Sane.{Sane}
use Rattle.methods.specs.Machine.{nowhere, back}
use Rattle.words.specs.Places.{used}
use Rattle.words.specs.Layout.{ChangedOnly}
use Rattle.std.specs.Prelude.{Option, Some, None}
use Rattle.moves.specs.declared.Moves.{Moves}
use Rattle.moves.specs.Memory.{steps_by, memory, Kept}

-- boat i is left, with no slot: tables that keep every rule, a boat that is there, and the words that a run has
pub record Leaving (t : Tables) (w : List ℕ) (i : ℕ) : Type 0 where
  pub sane : Sane t
  pub boat : i < boats t
  pub room : used ≤ length w

-- back to boat h, as the method's own unlabel says
pub record GoesBack (moves : Moves) (t : Tables) (w : List ℕ) (i : ℕ) (w' : List ℕ) (h : ℕ) : Type 0 where
  pub below : h < i
  pub same : take (suc h) w' ≡ take (suc h) w
  pub only : ChangedOnly 0 used w w'
  pub kept : Kept moves t w' h
  pub goes : (steps_by moves t).unlabel (memory moves w i) (take i w) ≡ back h (memory moves w' h)

-- nowhere to go back to
pub record GoesNowhere (moves : Moves) (t : Tables) (w : List ℕ) (i : ℕ) (w' : List ℕ) : Type 0 where
  pub only : ChangedOnly 0 used w w'
  pub goes : (steps_by moves t).unlabel (memory moves w i) (take i w) ≡ nowhere

abbrev pub Unlabels : Moves → Tables → List ℕ → (i : ℕ) → List ℕ → Option ℕ → Type 0
Unlabels moves t w i w' (Some h) = GoesBack moves t w i w' h
Unlabels moves t w i w' None = GoesNowhere moves t w i w'

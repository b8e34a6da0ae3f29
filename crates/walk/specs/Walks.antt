-- Where a walk ends, from any place.
use Rattle.std.specs.Prelude.{◌≡◌, List, ℕ, ◌≤◌, ◌<◌, length, take}
use Rattle.problem.specs.Tables.{Tables, boats}
use Rattle.problem.specs.declared.Allowance.{Allowance}
use Rattle.events.specs.Events.{Event, no_plan}
use Rattle.events.specs.declared.Counts.{Counts}
use Rattle.events.specs.Counts.{Fits, Makes}
use Rattle.methods.specs.Machine.{stop, step}
use Rattle.methods.specs.Reached.{StepsTo}
use Rattle.words.specs.Places.{used}
use Rattle.words.specs.Layout.{ChangedOnly, Placed}
use Rattle.visits.specs.Visits.{StopsAt}
use Rattle.moves.specs.declared.Moves.{Moves}
use Rattle.moves.specs.Memory.{Memory, steps_by, memory, Kept}
use Rattle.ends.specs.declared.Place.{Place}
use Rattle.ends.specs.declared.Ended.{Ended}
use Rattle.ends.specs.declared.Ended.TheVariants.{Solved, NoPlan, Undecided}

-- ---- from choice a after the plan so far p, with σ remembered and the counts m
module _ (moves : Moves) (t : Tables) (p : List ℕ) (a : ℕ) (σ : Memory moves) (m : Counts) where
  -- whole steps have led to a place, within the allowances, and k are the counts there
  pub record Arrives (plan : List ℕ) (choice : ℕ) (τ : Memory moves) (k : Counts) : Type 0 where
    pub events : List Event
    pub steps : StepsTo t (steps_by moves t) p a σ events plan choice τ
    pub makes : Makes m events k

  -- all boats are placed, and the words w hold their slots
  pub record EndsSolved (w : List ℕ) (k : Counts) : Type 0 where
    pub choice : ℕ
    pub remembered : Memory moves
    pub arrives : Arrives (take (boats t) w) choice remembered k
    pub placed : Placed t w (boats t)

  -- a boat with no slot left has nowhere to go back to
  pub record EndsNoPlan (k : Counts) : Type 0 where
    pub plan : List ℕ
    pub choice : ℕ
    pub remembered : Memory moves
    pub arrives : Arrives plan choice remembered k
    pub stops : step t (steps_by moves t) plan choice remembered ≡ stop no_plan

  -- an allowance ran out at a place: the words hold what is remembered there, and so many events of the step are made
  pub record EndsInside (w : List ℕ) (k : Counts) (which : Allowance) (at : Place) : Type 0 where
    pub boat : at.boat < boats t
    pub kept : Kept moves t w at.boat
    pub reached : Counts
    pub arrives : Arrives (take at.boat w) at.slot (memory moves w at.boat) reached
    pub stops : StopsAt t (steps_by moves t) (take at.boat w) at.slot (memory moves w at.boat) reached which at.made k

  abbrev pub EndsAt : (w : List ℕ) → Ended → Type 0
  EndsAt w (Solved k) = EndsSolved w k
  EndsAt w (NoPlan k) = EndsNoPlan k
  EndsAt w (Undecided k which at) = EndsInside w k which at

-- the words have gone from w to w'
pub record Ends (moves : Moves) (t : Tables) (p : List ℕ) (a : ℕ) (σ : Memory moves) (w : List ℕ) (m : Counts) (w' : List ℕ) (r : Ended) : Type 0 where
  pub only : ChangedOnly 0 used w w'
  pub ends : EndsAt moves t p a σ m w' r

-- ---- from any place: the boats below i hold slots, and m is reached
pub record Setting (moves : Moves) (t : Tables) (w : List ℕ) (i : ℕ) (m : Counts) : Type 0 where
  pub boat : i ≤ boats t
  pub room : used ≤ length w
  pub kept : Kept moves t w i
  pub fits : Fits m

abbrev pub Walked : (moves : Moves) → Tables → List ℕ → (i a : ℕ) → Counts → List ℕ → Ended → Type 0
Walked moves t w i a m w' r = Ends moves t (take i w) a (memory moves w i) w m w' r

-- What is known of the words under FC and FC-CBJ at boat i, the boats below it being placed.
use Rattle.std.specs.Prelude.{List, ℕ, ◌≤◌, ◌<◌, length, take}
use Rattle.problem.specs.Tables.{Tables, boats}
use Rattle.problem.specs.Sane.{Sane}
use Rattle.words.specs.Places.{used}
use Rattle.words.specs.Layout.{Placed, Firsts, Chained}
use Rattle.visits.specs.declared.Backward.{Backward}
use Rattle.visits.specs.declared.Backward.TheVariants.{OneBack, BySets}
use Rattle.live_words.specs.Lives.{Lives, Blames}

-- the boats to blame, where the way back goes by sets
abbrev pub BlamesKept : Backward → Tables → List ℕ → (i : ℕ) → Type 0
BlamesKept OneBack t w i = Unit {0}
BlamesKept BySets t w i = Blames t w i

pub record KeptAhead (backward : Backward) (t : Tables) (w : List ℕ) (i : ℕ) : Type 0 where
  pub firsts : Firsts t w
  pub chained : Chained t w
  pub placed : Placed t w i
  pub lives : Lives t w (take i w) i
  pub blames : BlamesKept backward t w i

-- boat i, whose slot has passed, is to be blamed for what it struck: tables that keep every rule, a boat that is there, and the words that a run has
pub record Blaming (t : Tables) (w : List ℕ) (i : ℕ) : Type 0 where
  pub sane : Sane t
  pub boat : i < boats t
  pub room : used ≤ length w
  pub firsts : Firsts t w
  pub chained : Chained t w

-- What is known of the words under BM at boat i, the boats below it being placed.
use Rattle.std.specs.Prelude.{List, ℕ}
use Rattle.problem.specs.Tables.{Tables, boats}
use Rattle.words.specs.Places.{low_at, lows_end}
use Rattle.words.specs.Layout.{Zero, Placed, Indexed}
use Rattle.marks.specs.Marks.{NeverRises}

pub record KeptMarked (t : Tables) (w : List ℕ) (i : ℕ) : Type 0 where
  pub indexed : Indexed t w
  pub placed : Placed t w i
  -- b of the boats that are not there, and of those after i
  pub none : Zero (low_at (boats t)) lows_end w
  pub falls : NeverRises w i

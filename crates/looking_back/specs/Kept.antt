-- What is known of the words under BT and CBJ at boat i, the boats below it being placed.
use Rattle.std.specs.Prelude.{List, ℕ}
use Rattle.problem.specs.Tables.{Tables}
use Rattle.words.specs.Layout.{Placed}
use Rattle.words.specs.Links.{Linked}

pub record KeptBack (t : Tables) (w : List ℕ) (i : ℕ) : Type 0 where
  pub linked : Linked t w
  pub placed : Placed t w i

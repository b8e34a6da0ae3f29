-- FC-CBJ: as FC, with conflict sets. A trial at i that empties j first puts back, then joins the blamers of j to i's set; with no choice left at i,
-- i's set with i's blamers is to blame, and what the boats from the deepest of them on struck is put back.
use Rattle.problem.specs.Tables.{Tables}
use Rattle.methods.specs.Machine.{Steps}
use Rattle.methods.specs.CBJ.{Jumping, jumping}
use Rattle.methods.specs.FC.{Strikes, looking_ahead}

unfoldable pub fccbj : Tables → Steps (Jumping Strikes)
fccbj t = jumping t (looking_ahead t)

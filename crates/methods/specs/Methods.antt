-- What each of the five methods does on given tables.
use Rattle.problem.specs.Tables.{Tables}
use Rattle.problem.specs.declared.Method.{Method}
use Rattle.problem.specs.declared.Method.TheVariants.{Bt, Cbj, Bm, Fc, FcCbj}
use Rattle.events.specs.Events.{Search}
use Rattle.methods.specs.Choices.{shown}
use Rattle.methods.specs.Machine.{search}
use Rattle.methods.specs.BT.{bt}
use Rattle.methods.specs.CBJ.{cbj}
use Rattle.methods.specs.BM.{bm}
use Rattle.methods.specs.FC.{fc}
use Rattle.methods.specs.FCCBJ.{fccbj}

-- the whole search, without allowances, told in slots
unfoldable pub search_by : Method → Tables → Search
search_by Bt t = shown t (search t (bt t))
search_by Cbj t = shown t (search t (cbj t))
search_by Bm t = shown t (search t (bm t))
search_by Fc t = shown t (search t (fc t))
search_by FcCbj t = shown t (search t (fccbj t))

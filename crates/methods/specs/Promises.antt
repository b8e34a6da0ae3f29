-- What the theorems on the methods speak of. (They are in proofs/Theorems.antt.)
use Rattle.problem.specs.Tables.{Tables}
use Rattle.problem.specs.Plans.{First, NoPlan}
use Rattle.problem.specs.declared.Method.{Method}
use Rattle.problem.specs.declared.Method.TheVariants.{Bt, Cbj, Bm, Fc, FcCbj}
use Rattle.events.specs.Events.{Ending, solved, no_plan, astray}

-- what an ending has to mean: solved, the first lawful plan; no plan, that there is none; and no search goes astray
abbrev pub Means : Tables → Ending → Type 0
Means t (solved plan) = First t plan
Means t no_plan = NoPlan t
Means t astray = ⊥

-- the first method saves checks and trials against the second, and does nothing else
pub data Saves : Method → Method → Type 0 where
  cbj_for_bt : Saves Cbj Bt
  bm_for_bt : Saves Bm Bt
  fc_cbj_for_fc : Saves FcCbj Fc

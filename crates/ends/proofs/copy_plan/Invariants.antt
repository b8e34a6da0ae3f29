-- One loop: the first k bytes are the slots, and the others are as they were.
use mathlib.Core.Path.{◌≡◌}
use mathlib.Core.List.{◌++◌}
use lib.ListN.{length, take, drop}
use Rattle.ends.proofs.copy_plan.Given as goal

abbrev pub invariant-loop-k : goal.invariant-loop-k
invariant-loop-k l = (length l.plan ≡ length l.initial.plan) × (l.plan ≡ take l.k l.work ++ drop l.k l.initial.plan)

-- At every mark the bytes before it are what was read so far.
use Rattle.scanning.proofs.Scanning.{pass_begins, pass_steps}
use Rattle.scanning.proofs.scan_pairs.Goals as goal

pub loop-slots-init : goal.loop-slots-init
loop-slots-init c = pass_begins _ _ c.requires

pub loop-slots-preserved : goal.loop-slots-preserved
loop-slots-preserved c = pass_steps _ _ _ _ _ c.loop-slots.invariant _ (rw c.in-Some.is at c.in_ok-slots.ensures)

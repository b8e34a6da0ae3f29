-- At every mark the bytes before it are what was read so far.
use Prim.Native.Nat.{◌-◌}
use lib.ListN.{length}
use Rattle.scanning.proofs.Scanning.{AtMark}
use Rattle.scanning.proofs.scan_pairs.Given as goal

abbrev pub invariant-loop-slots : goal.invariant-loop-slots
invariant-loop-slots l = AtMark l.file l.boats l.at l.pairs l.words

abbrev pub decreases-loop-slots : goal.decreases-loop-slots
decreases-loop-slots l = length l.file - l.at

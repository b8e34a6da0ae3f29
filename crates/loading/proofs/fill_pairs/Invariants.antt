-- At every mark the memory holds what was read so far.
use Prim.Native.Nat.{◌-◌}
use lib.ListN.{length}
use Rattle.loading.proofs.Second.{AtPair}
use Rattle.loading.proofs.fill_pairs.Given as goal

abbrev pub invariant-loop-lower : goal.invariant-loop-lower
invariant-loop-lower l = AtPair l.file l.boats l.initial.pairs l.initial.rows l.at l.pair l.word l.pairs l.rows

abbrev pub decreases-loop-lower : goal.decreases-loop-lower
decreases-loop-lower l = length l.file - l.at

-- Two loops: the slots given up from the entry on, and the looks of the slot at hand.
use Prim.Native.Nat.{◌^◌, ◌<◌}
use lib.ListN.{take}
use Rattle.methods.specs.BT.{looking_back}
use Rattle.words.specs.Sets.{set_words}
use Rattle.visits.specs.declared.Backward.{Backward}
use Rattle.visits.specs.Visits.{steps_over, state, ComesTo}
use Rattle.looking_back.proofs.Trials.{LookedTo}
use Rattle.looking_back.proofs.visit.Given as goal

abbrev pub invariant-loop-at : goal.invariant-loop-at
invariant-loop-at l = LookedTo l.tables l.work l.i l.slot l.end l.initial.counts l.at l.counts

abbrev pub invariant-loop-slot : goal.invariant-loop-slot
invariant-loop-slot l =
    record {
      below : l.set < 2 ^ l.i;
      comes : (backward : Backward) →
          ComesTo l.tables (steps_over l.tables (looking_back l.tables) backward) (take l.i l.work) l.from (state backward (set_words l.work l.i l.initial.set)) l.initial.counts
          l.slot (state backward (set_words l.work l.i l.set)) l.counts;
    }

-- The deepest boat to blame takes the set over: one word is written.
use native.Mathlib.Nat.{le_of_lt}
use Rattle.unlabelling.proofs.Jumping.{deepest_below, hands_down}
use Rattle.unlabelling.proofs.jump_back.Goals as goal

pub handed_down-joined-requires : goal.handed_down-joined-requires
handed_down-joined-requires c =
    let p = c.requires in
    let d = c.deepest_of-h.ensures in
    record { h_bound = d.small; h_bound_2 = (d.low, d.high); of_h_bound = p.3 c.deepest_of-h.result (le_of_lt (deepest_below p.2 d)) }

pub returns : goal.returns
returns c = rw c.store_set.ensures (hands_down c.args.work.now c.requires.0 c.requires.1 c.requires.2 c.deepest_of-h.ensures c.handed_down-joined.ensures)

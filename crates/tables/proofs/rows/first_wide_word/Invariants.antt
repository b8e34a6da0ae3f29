-- No word passed is wide.
use mathlib.Core.Path.{◌≡◌}
use mathlib.Core.Bool.{false}
use Prim.Native.Nat.{ℕ, ◌^◌, ◌≤◌, ◌<◌}
use lib.Dec.{leb}
use lib.ListN.{get_or}
use Rattle.tables.proofs.rows.first_wide_word.Given as goal

abbrev pub invariant-loop-w : goal.invariant-loop-w
invariant-loop-w l = (j : ℕ) → j < l.w → l.from ≤ j → leb (2 ^ l.size) (get_or l.rows j 0) ≡ false

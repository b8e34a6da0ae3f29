-- The slots of a live word, one after the other.
use Rattle.std.specs.Prelude.{◌≡◌, true, false, ℕ, ◌≤◌, ◌<◌}
use Rattle.problem.specs.Tables.{bit}

-- r is the next live slot from one on, or no slot: those passed over are dead
pub record NextLive (live from r : ℕ) : Type 0 where
  pub onward : from ≤ r
  pub dead : (k : ℕ) → from ≤ k → k < r → bit live k ≡ false
  pub alive : r < 64 → bit live r ≡ true

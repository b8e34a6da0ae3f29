-- Sets of boats as words, and the conflict sets that the working words hold.
use Rattle.std.specs.Prelude.{◌≡◌, Bool, true, false, cond, not, ◌&&◌, ◌||◌, List, ℕ, ◌+◌, ◌^◌, ◌≤◌, ◌<◌, ltb, eqb}
use Rattle.problem.specs.Tables.{bit}
use Rattle.methods.specs.CBJ.{Sets}
use Rattle.words.specs.Places.{set_at}
use Rattle.words.specs.Layout.{word}

-- r is the set s with boat h
pub record WithMember (s h r : ℕ) : Type 0 where
  pub members : (j : ℕ) → bit r j ≡ (bit s j || eqb j h)
  pub below : (i : ℕ) → h < i → s < 2 ^ i → r < 2 ^ i

-- r is the set s with boat h where it is to be a member, and s where not
abbrev pub WithMemberIf : (member : Bool) → (s h r : ℕ) → Type 0
WithMemberIf true s h r = WithMember s h r
WithMemberIf false s h r = r ≡ s

-- r is the deepest member of the set s
pub record Deepest (s r : ℕ) : Type 0 where
  pub small : r < 64
  pub member : bit s r ≡ true
  pub above : (j : ℕ) → r < j → bit s j ≡ false
  pub low : 2 ^ r ≤ s
  pub high : s < 2 ^ (r + 1)

-- r is the union of the sets s and u without h
pub record HandedDown (s u h r : ℕ) : Type 0 where
  pub members : (j : ℕ) → bit r j ≡ ((bit u j || bit s j) && not (eqb j h))
  pub below : r < 2 ^ h

-- ---- the conflict sets of all boats, from a word for each
abbrev pub members_of : (ℕ → ℕ) → Sets
members_of f = λ k j. bit (f k) j

-- boat i has the set s, the boats below it have theirs in their words, and those above it have none
abbrev pub set_words : List ℕ → (i s : ℕ) → ℕ → ℕ
set_words w i s = λ k. cond (eqb k i) s (cond (ltb k i) (word w (set_at k)) 0)

-- the set of each boat up to i has only boats below that boat
abbrev pub SetsBelow : List ℕ → ℕ → Type 0
SetsBelow w i = (k : ℕ) → k ≤ i → word w (set_at k) < 2 ^ k

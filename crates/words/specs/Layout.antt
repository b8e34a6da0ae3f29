-- The working words: where a run keeps what it remembers in the first 8,192 of them. (Places.antt names the places.)
use Rattle.std.specs.Prelude.{◌≡◌, ◌⊎◌, cond, List, ◌++◌, ℕ, zero, suc, ◌≤◌, ◌<◌, leb, length, get_or, drop, replicate}
use Rattle.problem.specs.Lowest.{lowest}
use Rattle.problem.specs.Tables.{Tables, boats, size, listed, lower, higher, place, is_listed, start}
use Rattle.words.specs.Places.{index_at, start_at, row_start_at, all_at, last_at, prev_at, live_at}

abbrev pub word : List ℕ → ℕ → ℕ
word w k = get_or w k 0

-- ---- what a call leaves as it was
-- the words from one place up to another may have changed, and no others
pub record ChangedOnly (from to : ℕ) (w w' : List ℕ) : Type 0 where
  pub long : length w' ≡ length w
  pub others : (k : ℕ) → (k < from) ⊎ (to ≤ k) → word w' k ≡ word w k

-- the first n words 0, and the later ones as they were. (It is no `abbrev`: at 8,192 it must not compute)
unfoldable pub zeroed : (n : ℕ) → List ℕ → List ℕ
zeroed n w = replicate n 0 ++ drop n w

-- the words from one place up to another are 0
abbrev pub Zero : (from to : ℕ) → List ℕ → Type 0
Zero from to w = (k : ℕ) → from ≤ k → k < to → word w k ≡ 0

-- ---- the plan so far: the boats below i hold slots of theirs
abbrev pub Placed : Tables → List ℕ → ℕ → Type 0
Placed t w i = (h : ℕ) → h < i → word w h < size t.sizes h

-- ---- the index of pairs, from which links are made
unfoldable pub index_of : Tables → (h i : ℕ) → ℕ
index_of t h i = cond (is_listed t.pairs h i) (suc (start t.sizes t.pairs (place t.pairs h i))) 0

abbrev pub Indexed : Tables → List ℕ → Type 0
Indexed t w = (h i : ℕ) → h < i → i < boats t → word w (index_at h i) ≡ index_of t h i

-- ---- the index for looking ahead
-- the first listed pair whose lower boat is i or a later one; `listed` where there is none
unfoldable pub first_pair : List ℕ → ℕ → ℕ
first_pair pairs i = lowest (listed pairs) (λ k. leb i (lower pairs k))

pub record Firsts (t : Tables) (w : List ℕ) : Type 0 where
  pub pair_from : (i : ℕ) → i ≤ boats t → word w (start_at i) ≡ first_pair t.pairs i
  pub row_from : (i : ℕ) → i < boats t → word w (row_start_at i) ≡ start t.sizes t.pairs (first_pair t.pairs i)

-- ---- the live words
-- where the slots of boat j stand that the boats below i leave live: at the pair of the last of them that is listed with j; where none is, all slots
unfoldable pub left_at : (pairs : List ℕ) → (i j : ℕ) → ℕ
left_at pairs zero j = all_at j
left_at pairs (suc g) j = cond (is_listed pairs g j) (live_at (place pairs g j)) (left_at pairs g j)

-- the words say where the live word before each pair stands, and each boat's last
pub record Chained (t : Tables) (w : List ℕ) : Type 0 where
  pub prev : (p : ℕ) → p < listed t.pairs → word w (prev_at p) ≡ left_at t.pairs (lower t.pairs p) (higher t.pairs p)
  pub last : (j : ℕ) → j < boats t → word w (last_at j) ≡ left_at t.pairs j j

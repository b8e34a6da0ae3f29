-- The links of a boat, for looking back: a word for each lower boat that is listed with it, rising.
use Rattle.std.specs.Prelude.{◌≡◌, true, false, List, ℕ, suc, ◌+◌, ◌*◌, ◌≤◌, ◌<◌}
use Rattle.problem.specs.Tables.{Tables, boats, is_listed, place, start}
use Rattle.words.specs.Places.{tri, start_at, end_at, link_at}
use Rattle.words.specs.Layout.{word}

-- the link of boat i to h: which boat it is, and where the rows of their pair begin
abbrev pub link_of : Tables → (h i : ℕ) → ℕ
link_of t h i = 64 * start t.sizes t.pairs (place t.pairs h i) + h

-- the words from link q up to link e are the links of boat i to the boats from h up to b
pub data Links (t : Tables) (w : List ℕ) (i b : ℕ) : (h q e : ℕ) → Type 0 where
  none : {q : ℕ} → Links t w i b b q q
  past : {h q e : ℕ} → is_listed t.pairs h i ≡ false → Links t w i b (suc h) q e → Links t w i b h q e
  link : {h q e : ℕ} → is_listed t.pairs h i ≡ true → word w (link_at q) ≡ link_of t h i → Links t w i b (suc h) (suc q) e → Links t w i b h q e

-- each boat's links begin and end where its words say, the one boat's after the other's
pub record Linked (t : Tables) (w : List ℕ) : Type 0 where
  pub few : (i : ℕ) → i ≤ boats t → word w (start_at i) ≤ tri i
  pub links : (i : ℕ) → i < boats t → Links t w i i 0 (word w (start_at i)) (word w (end_at i))

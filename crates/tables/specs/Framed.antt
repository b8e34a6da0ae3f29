-- What the tests before number 7 leave: the rows can be walked pair by pair.
use Rattle.std.specs.Prelude.{◌≡◌, ℕ, ◌≤◌, ◌<◌, length}
use Rattle.problem.specs.Tables.{Tables, boats, size, listed, lower, higher, start}

pub record Framed (t : Tables) : Type 0 where
  pub few_slots : (i : ℕ) → i < boats t → size t.sizes i ≤ 64
  pub lower_named : (k : ℕ) → k < listed t.pairs → lower t.pairs k < boats t
  pub higher_named : (k : ℕ) → k < listed t.pairs → higher t.pairs k < boats t
  pub row_words : length t.rows ≡ start t.sizes t.pairs (listed t.pairs)

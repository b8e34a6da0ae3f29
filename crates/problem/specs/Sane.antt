-- Tables that keep every rule of document 01's 'The harbour's problem'.
use Rattle.std.specs.Prelude.{◌≡◌, ℕ, ◌*◌, ◌^◌, ◌≤◌, ◌<◌, length}
use Rattle.problem.specs.Tables.{Tables, boats, size, listed, lower, higher, start, row}
use Rattle.problem.specs.Rising.{Rising}

pub record Sane (t : Tables) : Type 0 where
  pub few_boats : boats t ≤ 64
  pub some_slots : (i : ℕ) → i < boats t → 0 < size t.sizes i
  pub few_slots : (i : ℕ) → i < boats t → size t.sizes i ≤ 64
  pub two_bytes : length t.pairs ≡ 2 * listed t.pairs
  pub few_pairs : listed t.pairs ≤ 2016
  pub lower_first : (k : ℕ) → k < listed t.pairs → lower t.pairs k < higher t.pairs k
  pub boats_named : (k : ℕ) → k < listed t.pairs → higher t.pairs k < boats t
  pub rising : Rising t.pairs
  pub row_words : length t.rows ≡ start t.sizes t.pairs (listed t.pairs)
  pub row_bits : (k a : ℕ) → k < listed t.pairs → a < size t.sizes (lower t.pairs k) → row t k a < 2 ^ size t.sizes (higher t.pairs k)

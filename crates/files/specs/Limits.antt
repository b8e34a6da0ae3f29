-- Tables whose parts a file can carry. (Document 02, No. 2.)
use Rattle.std.specs.Prelude.{◌≡◌, ℕ, ◌*◌, ◌^◌, ◌<◌, length}
use Rattle.problem.specs.Tables.{Tables, boats, listed, lower, start}
use Rattle.files.specs.Bytes.{Below}

-- what reading back needs: whole pairs, no more than two bytes count, each with a lower boat that is there and a word for each of its slots
pub record Whole (t : Tables) : Type 0 where
  pub two_bytes : length t.pairs ≡ 2 * listed t.pairs
  pub few_pairs : listed t.pairs < 65536
  pub lower_named : (k : ℕ) → k < listed t.pairs → lower t.pairs k < boats t
  pub row_words : length t.rows ≡ start t.sizes t.pairs (listed t.pairs)
  pub words : Below (2 ^ 64) t.rows

-- what makes every entry of the file a byte
pub record Small (t : Tables) : Type 0 where
  pub few_boats : boats t < 256
  pub size_bytes : Below 256 t.sizes
  pub pair_bytes : Below 256 t.pairs

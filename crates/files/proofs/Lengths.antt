-- How long a file is.
use mathlib.Core.Path.{◌≡◌, refl, ap}
use mathlib.Core.List.{List, [], ◌∷◌, ◌++◌}
use Prim.Native.Nat.{ℕ, zero, suc, ◌+◌, ◌*◌, ◌≤◌}
use native.Mathlib.Omega.{arith}
use lib.ListN.{length, get_or, length-append}
use Rattle.problem.specs.Tables.{Tables, boats, size, listed, lower, higher, start}
use Rattle.problem.specs.Sane.{Sane}
use Rattle.problem.proofs.Starts.{start_zero, start_suc, start_few}
use Rattle.files.specs.Bytes.{bytes_of, joined}
use Rattle.files.specs.File.{sizes_record, pair_record, end_record, file_of}
use Rattle.files.proofs.Bytes.{bytes_length, joined_length}

-- the words of some rows, from one of them on
abbrev pub word_bytes : (rows : List ℕ) (first : ℕ) → ℕ → List ℕ
word_bytes rows first a = bytes_of 8 (get_or rows (first + a) 0)

pub words_long : (rows : List ℕ) (first count : ℕ) → length (joined count (word_bytes rows first)) ≡ 8 * count
words_long rows first count = joined_length count 8 (word_bytes rows first) (λ a. bytes_length 8 (get_or rows (first + a) 0))

-- ---- the records
module _ (t : Tables) where
  pub pair_parts : (k : ℕ) → pair_record t k ≡ (0x50 ∷ 0x52 ∷ lower t.pairs k ∷ higher t.pairs k ∷ [])
      ++ joined (size t.sizes (lower t.pairs k)) (word_bytes t.rows (start t.sizes t.pairs k))
  unfolding pair_record
  pair_parts k = refl

  pub pairs_long_lem : (k : ℕ) → length (joined k (pair_record t)) ≡ 4 * k + 8 * start t.sizes t.pairs k
  unfolding joined
  pairs_long_lem zero = omega (arith, start_zero t.sizes t.pairs)
  pairs_long_lem (suc k) =
      omega (
        arith,
        pairs_long_lem k,
        length-append (joined k (pair_record t)) (pair_record t k),
        ap length (pair_parts k),
        words_long t.rows (start t.sizes t.pairs k) (size t.sizes (lower t.pairs k)),
        start_suc t.sizes t.pairs k,
      )

module _ (t : Tables) (sane : Sane t) where
  pub file_long : length (file_of t) ≡ 3 + boats t + (4 * listed t.pairs + 8 * length t.rows) + 4
  unfolding file_of sizes_record end_record bytes_of
  file_long =
      omega (
        arith,
        length-append (sizes_record t) (joined (listed t.pairs) (pair_record t) ++ end_record t),
        length-append (joined (listed t.pairs) (pair_record t)) (end_record t),
        pairs_long_lem t (listed t.pairs),
        sane.row_words,
      )

  -- the longest rows and the longest file that tables within the limits have
  pub rows_few : length t.rows ≤ 129024
  rows_few = omega (arith, sane.row_words, sane.few_pairs, start_few t sane (listed t.pairs) (omega arith))

  pub file_few : length (file_of t) ≤ 1040327
  file_few = omega (arith, file_long, rows_few, sane.few_boats, sane.few_pairs)

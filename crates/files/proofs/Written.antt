-- Reading what was written gives the same tables. (Document 02, No. 2.)
use mathlib.Core.Path.{◌≡◌, refl, sym, ap, ap₂, ◌∙◌}
use mathlib.Core.List.{List, [], ◌∷◌, ◌++◌, append_assoc}
use Prim.Native.Nat.{ℕ, zero, suc, ◌+◌, ◌*◌, ◌≤◌, ◌<◌}
use native.Mathlib.Numerals.{add-one}
use native.Mathlib.Omega.{arith}
use lib.ListN.{length, get_or, take}
use lib.Seq.{take_all, take-suc, take-add}
use Rattle.problem.specs.Tables.{Tables, boats, size, listed, lower, higher, start, row}
use Rattle.problem.proofs.Starts.{start_zero, start_suc, start_within}
use Rattle.files.specs.Bytes.{bytes_of, number, words_of, joined}
use Rattle.files.specs.File.{sizes_record, pair_record, end_record, file_of}
use Rattle.files.specs.Reading.{read, pairs_due, nothing, read_from, reading}
use Rattle.files.specs.Limits.{Whole}
use Rattle.files.proofs.Bytes.{bytes_length, number_of_bytes, joined_length, rows_back}
use Rattle.files.proofs.Records.{sizes_read, pair_read, end_read}

-- the tables up to pair k
so_far : Tables → ℕ → Tables
so_far t k = record { sizes = t.sizes; pairs = take (2 * k) t.pairs; rows = take (start t.sizes t.pairs k) t.rows }

module _ (t : Tables) (w : Whole t) where
  -- pair k's words as bytes
  word_bytes : ℕ → List ℕ
  word_bytes k = joined (size t.sizes (lower t.pairs k)) (λ a. bytes_of 8 (row t k a))

  bytes_long : (k : ℕ) → length (word_bytes k) ≡ 8 * size t.sizes (lower t.pairs k)
  unfolding word_bytes
  bytes_long k = joined_length (size t.sizes (lower t.pairs k)) 8 (λ a. bytes_of 8 (row t k a)) (λ a. bytes_length 8 (row t k a))

  pairs_grow : (k : ℕ) → k < listed t.pairs → take (2 * k) t.pairs ++ (lower t.pairs k ∷ higher t.pairs k ∷ []) ≡ take (2 * suc k) t.pairs
  pairs_grow k l =
      let twice : 2 * suc k ≡ suc (suc (2 * k)) = omega arith in
      sym
      (ap (λ n. take n t.pairs) twice
      ∙ take-suc t.pairs (suc (2 * k)) 0 (omega arith)
      ∙ ap₂ (λ front i. front ++ (get_or t.pairs i 0 ∷ [])) (take-suc t.pairs (2 * k) 0 (omega arith)) (sym (add-one (2 * k)))
      ∙ append_assoc (take (2 * k) t.pairs) (lower t.pairs k ∷ []) (higher t.pairs k ∷ []))

  rows_grow : (k : ℕ) → k < listed t.pairs
      → take (start t.sizes t.pairs k) t.rows ++ words_of (size t.sizes (lower t.pairs k)) (word_bytes k)
      ≡ take (start t.sizes t.pairs (suc k)) t.rows
  unfolding word_bytes
  rows_grow k l =
      ap (λ ws. take (start t.sizes t.pairs k) t.rows ++ ws)
      (rows_back t.rows (start t.sizes t.pairs k) (size t.sizes (lower t.pairs k)) (omega (arith, w.row_words, start_within t.sizes t.pairs k l)) w.words)
      ∙ sym (take-add (start t.sizes t.pairs k) (size t.sizes (lower t.pairs k)) t.rows)
      ∙ ap (λ n. take n t.rows) (sym (start_suc t.sizes t.pairs k))

  pair_step : (k at : ℕ) (rest : List ℕ) → k < listed t.pairs
      → (after : ℕ) × (read_from at pairs_due (so_far t k) (pair_record t k ++ rest) ≡ read_from after pairs_due (so_far t (suc k)) rest)
  unfolding so_far pair_record word_bytes
  pair_step k at rest l = (
    at + 2 + 1 + 1 + 8 * size t.sizes (lower t.pairs k),
    pair_read at (so_far t k) (lower t.pairs k) (higher t.pairs k) (word_bytes k) rest (w.lower_named k l) (bytes_long k)
        ∙ ap₂ (λ ps rs. read_from (at + 2 + 1 + 1 + 8 * size t.sizes (lower t.pairs k)) pairs_due (record { sizes = t.sizes; pairs = ps; rows = rs }) rest) (pairs_grow k l) (rows_grow k l),
  )

  -- after the SZ and k PRs
  reached : (k : ℕ) (rest : List ℕ) → k ≤ listed t.pairs
      → (at : ℕ) × (reading (sizes_record t ++ (joined k (pair_record t) ++ rest)) ≡ read_from at pairs_due (so_far t k) rest)
  unfolding reading joined sizes_record so_far
  reached zero rest l = (
    0 + 2 + 1 + boats t,
    sizes_read 0 nothing (boats t) t.sizes rest refl
        ∙ ap (λ n. read_from (0 + 2 + 1 + boats t) pairs_due (record { sizes = t.sizes; pairs = []; rows = take n t.rows }) rest) (sym (start_zero t.sizes t.pairs)),
  )
  reached (suc k) rest l =
      let before = reached k (pair_record t k ++ rest) (omega arith) in
      let here = pair_step k before.0 rest (omega arith) in
      (here.0, ap (λ later. reading (sizes_record t ++ later)) (append_assoc (joined k (pair_record t)) (pair_record t k) rest) ∙ before.1 ∙ here.1)

  all_read : so_far t (listed t.pairs) ≡ t
  unfolding so_far
  all_read =
      ap₂ (λ ps rs. record { sizes = t.sizes; pairs = ps; rows = rs })
      (take_all (2 * listed t.pairs) t.pairs (omega (arith, w.two_bytes)))
      (take_all (start t.sizes t.pairs (listed t.pairs)) t.rows (omega (arith, w.row_words)))

  pub read_written : reading (file_of t) ≡ read t
  unfolding file_of end_record
  read_written =
      let r = reached (listed t.pairs) (end_record t) (omega arith) in
      r.1
      ∙ ap (λ s. read_from r.0 pairs_due s (end_record t)) all_read
      ∙ end_read r.0 t (bytes_of 2 (listed t.pairs)) (bytes_length 2 (listed t.pairs)) (number_of_bytes 2 (listed t.pairs) w.few_pairs)

-- Tables that pass the examination can be carried by a file, and its entries are bytes. (Document 02, No. 2.)
use mathlib.Core.Path.{◌≡◌, refl}
use mathlib.Core.Bool.{Bool, true, false}
use mathlib.Core.List.{List, [], ◌∷◌, ◌++◌}
use Prim.Native.Nat.{ℕ, ◌+◌, ◌*◌, ◌/◌, ◌%◌, ◌^◌, ◌≤◌, ◌<◌}
use native.Mathlib.Omega.{arith}
use borrow.Author.Tests.{leb-false, eqb-true, eqb-false}
use lib.Dec.{eqb}
use lib.ListN.{length, get_or}
use lib.Pow.{pow_mono}
use Rattle.problem.specs.Tables.{Tables, boats, size, listed, lower, higher, row}
use Rattle.problem.specs.Sane.{Sane}
use Rattle.tables.specs.Examination.{pair_of_word, bad_word}
use Rattle.tables.proofs.Words.{word_listed, rows_good}
use Rattle.files.specs.Bytes.{bytes_of, joined, Below}
use Rattle.files.specs.File.{SZ, PR, ED, sizes_record, pair_record, end_record, file_of}
use Rattle.files.specs.Limits.{Whole, Small}
use Rattle.files.proofs.Bytes.{below_cons, below_join, bytes_below, joined_below}

module _ (t : Tables) (s : Sane t) where
  words_fit : Below (2 ^ 64) t.rows
  unfolding bad_word
  words_fit i l =
      let k : ℕ = pair_of_word t.sizes t.pairs i in
      let named : k < listed t.pairs = word_listed t.sizes t.pairs i (omega (arith, s.row_words)) in
      let few : size t.sizes (higher t.pairs k) ≤ 64 = s.few_slots (higher t.pairs k) (s.boats_named k named) in
      let narrow : get_or t.rows i 0 < 2 ^ size t.sizes (higher t.pairs k) = leb-false _ _ (rows_good t s.row_words s.row_bits i l) in
      omega (arith, pow_mono few)

  pub sane_whole : Whole t
  sane_whole = record {
    two_bytes = s.two_bytes;
    few_pairs = omega (arith, s.few_pairs);
    lower_named = λ k l. omega (arith, s.lower_first k l, s.boats_named k l);
    row_words = s.row_words;
    words = words_fit;
  }

  bounded : (k : ℕ) → k < listed t.pairs → (lower t.pairs k < 256) × (higher t.pairs k < 256)
  bounded k l = omega (arith, s.few_boats, s.lower_first k l, s.boats_named k l)

  pair_byte : (i : ℕ) → i < length t.pairs → get_or t.pairs i 0 < 256
  pair_byte i l = by (eqb (i % 2) 0) refl
    where
      by : (b : Bool) → eqb (i % 2) 0 ≡ b → get_or t.pairs i 0 < 256
      by true e =
          let k : i / 2 < listed t.pairs = omega (arith, s.two_bytes) in
          let even : 2 * (i / 2) ≡ i = omega (arith, eqb-true (i % 2) 0 e) in
          rw even at (bounded (i / 2) k).0
      by false e =
          let k : i / 2 < listed t.pairs = omega (arith, s.two_bytes) in
          let odd : 2 * (i / 2) + 1 ≡ i = omega (arith, eqb-false (i % 2) 0 e) in
          rw odd at (bounded (i / 2) k).1

  pub sane_small : Small t
  sane_small = record {
    few_boats = omega (arith, s.few_boats);
    size_bytes = λ i l. omega (arith, s.few_slots i l);
    pair_bytes = pair_byte;
  }

-- the entries of the file are bytes
two_bytes_lem : (a b : ℕ) → a < 256 → b < 256 → Below 256 (a ∷ b ∷ [])
two_bytes_lem a b p q = below_cons a (b ∷ []) p (below_cons b [] q (λ i l. absurd (omega arith)))

module _ (t : Tables) (w : Whole t) (s : Small t) where
  sizes_bytes : Below 256 (sizes_record t)
  unfolding sizes_record
  sizes_bytes = below_join SZ (boats t ∷ t.sizes) (two_bytes_lem 0x53 0x5A (omega arith) (omega arith)) (below_cons (boats t) t.sizes s.few_boats s.size_bytes)

  pair_bytes_lem : (k : ℕ) → k < listed t.pairs → Below 256 (pair_record t k)
  unfolding pair_record
  pair_bytes_lem k l =
      let words : List ℕ = joined (size t.sizes (lower t.pairs k)) (λ a. bytes_of 8 (row t k a)) in
      below_join (PR ++ (lower t.pairs k ∷ higher t.pairs k ∷ [])) words
      (below_join PR (lower t.pairs k ∷ higher t.pairs k ∷ []) (two_bytes_lem 0x50 0x52 (omega arith) (omega arith))
      (two_bytes_lem (lower t.pairs k) (higher t.pairs k) (s.pair_bytes (2 * k) (omega (arith, w.two_bytes))) (s.pair_bytes (2 * k + 1) (omega (arith, w.two_bytes)))))
      (joined_below (size t.sizes (lower t.pairs k)) (λ a. bytes_of 8 (row t k a)) (λ a h. bytes_below 8 (row t k a)))

  end_bytes : Below 256 (end_record t)
  unfolding end_record
  end_bytes = below_join ED (bytes_of 2 (listed t.pairs)) (two_bytes_lem 0x45 0x44 (omega arith) (omega arith)) (bytes_below 2 (listed t.pairs))

  pub file_bytes : Below 256 (file_of t)
  unfolding file_of
  file_bytes =
      below_join (sizes_record t) (joined (listed t.pairs) (pair_record t) ++ end_record t) sizes_bytes
      (below_join (joined (listed t.pairs) (pair_record t)) (end_record t) (joined_below (listed t.pairs) (pair_record t) pair_bytes_lem) end_bytes)

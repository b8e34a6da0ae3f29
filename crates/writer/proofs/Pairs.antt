-- The PRs put one after another.
use mathlib.Core.Path.{◌≡◌, refl, sym, ap, ap₂, ◌∙◌}
use mathlib.Core.List.{List, [], ◌∷◌, ◌++◌}
use Prim.Native.Nat.{ℕ, ◌+◌, ◌*◌, ◌≤◌, ◌<◌}
use native.Mathlib.Omega.{arith}
use borrow.Rule.Slice.PartMut.{put_mid}
use lib.ListN.{length, take, drop, length-drop}
use lib.Seq.{length-take-le, get_or-take, get_or-drop}
use Rattle.problem.specs.Tables.{Tables, size, listed, lower, higher, start}
use Rattle.problem.specs.Sane.{Sane}
use Rattle.problem.proofs.Starts.{start_zero, start_next, start_within}
use Rattle.files.specs.Bytes.{bytes_of, joined}
use Rattle.files.proofs.Bytes.{joined_same}
use Rattle.files.specs.File.{pair_record}
use Rattle.writer.proofs.Puts.{Puts, puts_none, puts_all, puts_part, puts_length, puts_then, row_bytes}
use Rattle.files.proofs.Lengths.{word_bytes, words_long, pair_parts, pairs_long_lem}
use Rattle.writer.proofs.Contents.{joined_more}

-- k PRs are there, the next one's place is `at`, and its rows begin at `word`
pub record AtPair (t : Tables) (file₀ file : List ℕ) (at word k : ℕ) : Type 0 where
  pub placed : at ≡ length (joined k (pair_record t))
  pub begun : word ≡ start t.sizes t.pairs k
  pub put : Puts (joined k (pair_record t)) 0 file₀ file

-- no PR is there yet
pub pairs_begin : (t : Tables) (file : List ℕ) → AtPair t file file 0 0 0
unfolding joined
pairs_begin t file = record { placed = refl; begun = sym (start_zero t.sizes t.pairs); put = puts_none file }

-- a part of the rows as words
part_words : (rows : List ℕ) (first count : ℕ) → joined count (row_bytes (take count (drop first rows))) ≡ joined count (word_bytes rows first)
part_words rows first count =
    joined_same count _ _ (λ a l. ap (bytes_of 8) (get_or-take count (drop first rows) a 0 l ∙ get_or-drop first rows a 0))

-- the pair at hand has so many slots
module _ {t : Tables} {file₀ file : List ℕ} {at word k : ℕ} (so : AtPair t file₀ file at word k) (sane : Sane t)
    (room : length file₀ ≡ 4 * listed t.pairs + 8 * length t.rows) (l : k < listed t.pairs) {slots : ℕ} (is : slots ≡ size t.sizes (lower t.pairs k)) where
  -- its rows are there
  pub rows_inside : word + slots ≤ length t.rows
  rows_inside = omega (arith, so.begun, start_within t.sizes t.pairs k l, sane.row_words)

  -- its PR has room
  pub pair_inside : at + (4 + 8 * slots) ≤ length file
  pair_inside = omega (arith, room, so.placed, so.begun, pairs_long_lem t k, puts_length so.put, rows_inside)

  -- its PR is there: the four bytes, then the words
  pub pairs_more : (n m many next : ℕ) (head words : List ℕ) → n ≡ 4 → m ≡ 8 * slots → many ≡ slots → next ≡ at + (4 + 8 * slots)
      → head ≡ 0x50 ∷ 0x52 ∷ lower t.pairs k ∷ higher t.pairs k ∷ [] → words ≡ joined (length (take many (drop word t.rows))) (row_bytes (take many (drop word t.rows)))
      → AtPair t file₀ (put_mid (at + 4) m (put_mid at n file head) words) next (word + slots) (k + 1)
  pairs_more n m many next head words four eight all on first rest =
      let long : length (take many (drop word t.rows)) ≡ slots =
      ap (λ n. length (take n (drop word t.rows))) all ∙ length-take-le slots (drop word t.rows) (omega (arith, length-drop word t.rows, rows_inside)) in
      let put : words ≡ joined slots (word_bytes t.rows word) =
      rest ∙ ap₂ (λ c n. joined c (row_bytes (take n (drop word t.rows)))) long all ∙ part_words t.rows word slots in
      let p : Puts head at file (put_mid at n file head) = puts_part file head at n (ap length first ∙ sym four) (omega (arith, pair_inside)) in
      let q : Puts words (at + 4) (put_mid at n file head) (put_mid (at + 4) m (put_mid at n file head) words) =
      puts_part _ words (at + 4) m (ap length put ∙ words_long t.rows word slots ∙ sym eight) (omega (arith, pair_inside, puts_length p)) in
      record {
        placed = omega (arith, so.placed, so.begun, pairs_long_lem t k, pairs_long_lem t (k + 1), start_next t.sizes t.pairs k);
        begun = omega (arith, so.begun, start_next t.sizes t.pairs k);
        put =
            puts_then so.put (omega (arith, so.placed)) (joined_more k (pair_record t))
            (puts_then p (omega (arith, ap length first))
            (ap₂ ◌++◌ first put ∙ ap₂ (λ n w. (0x50 ∷ 0x52 ∷ lower t.pairs k ∷ higher t.pairs k ∷ []) ++ joined n (word_bytes t.rows w)) is so.begun ∙ sym (pair_parts t k)) q);
      }

-- all PRs are there
pub pairs_done : {t : Tables} {file₀ file : List ℕ} {at word k : ℕ} → AtPair t file₀ file at word k → Sane t
    → length file₀ ≡ 4 * listed t.pairs + 8 * length t.rows → k ≡ listed t.pairs → file ≡ joined (listed t.pairs) (pair_record t)
pairs_done {t} {k = k} so sane room all =
    puts_all so.put (omega (arith, room, pairs_long_lem t k, ap (start t.sizes t.pairs) all, sane.row_words)) ∙ ap (λ n. joined n (pair_record t)) all

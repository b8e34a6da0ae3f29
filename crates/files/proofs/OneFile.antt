-- One problem has one file: bytes that are read are those that are written for what was read. (Document 02, No. 2.)
use mathlib.Core.Path.{◌≡◌, refl, sym, ap, ap₂, subst, ◌∙◌}
use mathlib.Core.Logic.{◌⊎◌, inl, inr}
use mathlib.Core.List.{List, [], ◌∷◌, ◌++◌, append_assoc}
use Prim.Native.Nat.{ℕ, zero, suc, ◌+◌, ◌*◌, ◌^◌, ◌≤◌, ◌<◌}
use native.Mathlib.Nat.{eq-or-lt_of_le, le_of_suc-le-suc}
use native.Mathlib.Omega.{arith}
use lib.ListN.{length, get_or, length-append, get_or-append}
use lib.Seq.{get_or-append-add, get_or_at}
use Rattle.problem.specs.Tables.{Tables, boats, size, listed, lower, higher, start, row}
use Rattle.problem.proofs.Starts.{start_zero, start_suc, start_within}
use Rattle.files.specs.Bytes.{bytes_of, number, words_of, joined, Below}
use Rattle.files.specs.File.{SZ, PR, ED, sizes_record, pair_record, end_record, file_of}
use Rattle.files.specs.Reading.{read, pairs_due, sized, nothing, read_from, reading}
use Rattle.files.specs.Limits.{Whole}
use Rattle.files.proofs.Bytes.{below_left, below_right, below_join, bytes_of_number, number_below, joined_same, words_length, words_below, words_back}
use Rattle.files.proofs.Records.{with_pair, PairTaken, EndTaken, sizes_due_lem, PairOrEnd, pairs_due_lem}

-- bytes are left, and those before them are the records of the tables read so far
record Behind (file : List ℕ) (t : Tables) (bytes : List ℕ) : Type 0 where
  two_bytes : length t.pairs ≡ 2 * listed t.pairs
  row_words : length t.rows ≡ start t.sizes t.pairs (listed t.pairs)
  lower_named : (k : ℕ) → k < listed t.pairs → lower t.pairs k < boats t
  words : Below (2 ^ 64) t.rows
  parts : file ≡ sizes_record t ++ (joined (listed t.pairs) (pair_record t) ++ bytes)

-- ---- one more pair
module _ (t : Tables) (l h : ℕ) (words : List ℕ) (two_bytes : length t.pairs ≡ 2 * listed t.pairs)
    (row_words : length t.rows ≡ start t.sizes t.pairs (listed t.pairs)) where
  listed_more : listed (with_pair t l h words).pairs ≡ suc (listed t.pairs)
  listed_more = omega (arith, length-append t.pairs (l ∷ h ∷ []))

  lower_kept : (k : ℕ) → k < listed t.pairs → lower (with_pair t l h words).pairs k ≡ lower t.pairs k
  lower_kept k q = get_or-append t.pairs (l ∷ h ∷ []) 0 (2 * k) (omega arith)

  higher_kept : (k : ℕ) → k < listed t.pairs → higher (with_pair t l h words).pairs k ≡ higher t.pairs k
  higher_kept k q = get_or-append t.pairs (l ∷ h ∷ []) 0 (2 * k + 1) (omega arith)

  lower_new : lower (with_pair t l h words).pairs (listed t.pairs) ≡ l
  lower_new = get_or_at t.pairs l (h ∷ []) 0 (2 * listed t.pairs) two_bytes

  higher_new : higher (with_pair t l h words).pairs (listed t.pairs) ≡ h
  higher_new = ap (λ i. get_or (t.pairs ++ (l ∷ h ∷ [])) i 0) (omega arith) ∙ get_or-append-add t.pairs (l ∷ h ∷ []) 1 0

  start_kept : (k : ℕ) → k ≤ listed t.pairs → start t.sizes (with_pair t l h words).pairs k ≡ start t.sizes t.pairs k
  start_kept zero q = start_zero t.sizes _ ∙ sym (start_zero t.sizes t.pairs)
  start_kept (suc k) q =
      start_suc t.sizes (with_pair t l h words).pairs k
      ∙ ap₂ (λ s b. s + size t.sizes b) (start_kept k (omega arith)) (lower_kept k (omega arith))
      ∙ sym (start_suc t.sizes t.pairs k)

  row_kept : (k a : ℕ) → k < listed t.pairs → a < size t.sizes (lower t.pairs k) → row (with_pair t l h words) k a ≡ row t k a
  row_kept k a q r =
      ap (λ s. get_or (with_pair t l h words).rows (s + a) 0) (start_kept k (omega arith))
      ∙ get_or-append t.rows _ 0 (start t.sizes t.pairs k + a) (omega (arith, start_within t.sizes t.pairs k q))

  record_kept : (k : ℕ) → k < listed t.pairs → pair_record (with_pair t l h words) k ≡ pair_record t k
  unfolding pair_record
  record_kept k q =
      let words_kept : joined (size t.sizes (lower (with_pair t l h words).pairs k)) (λ a. bytes_of 8 (row (with_pair t l h words) k a))
      ≡ joined (size t.sizes (lower t.pairs k)) (λ a. bytes_of 8 (row t k a)) =
      ap (λ b. joined (size t.sizes b) (λ a. bytes_of 8 (row (with_pair t l h words) k a))) (lower_kept k q)
      ∙ joined_same (size t.sizes (lower t.pairs k)) _ _ (λ a r. ap (bytes_of 8) (row_kept k a q r)) in
      ap₂ (λ b rest. PR ++ (b ∷ rest)) (lower_kept k q) (ap₂ ◌∷◌ (higher_kept k q) words_kept)

  module _ (long : length words ≡ 8 * size t.sizes l) (small : Below 256 words) where
    record_new : pair_record (with_pair t l h words) (listed t.pairs) ≡ PR ++ (l ∷ h ∷ words)
    unfolding pair_record
    record_new =
        let words_new : joined (size t.sizes (lower (with_pair t l h words).pairs (listed t.pairs))) (λ a. bytes_of 8 (row (with_pair t l h words) (listed t.pairs) a)) ≡ words =
        ap (λ b. joined (size t.sizes b) (λ a. bytes_of 8 (row (with_pair t l h words) (listed t.pairs) a))) lower_new
        ∙ joined_same (size t.sizes l) _ (λ a. bytes_of 8 (get_or (words_of (size t.sizes l) words) a 0)) (λ a r.
        ap (bytes_of 8)
        (ap (λ s. get_or (with_pair t l h words).rows (s + a) 0) (start_kept (listed t.pairs) (omega arith) ∙ sym row_words)
        ∙ get_or-append-add t.rows (words_of (size t.sizes l) words) a 0))
        ∙ words_back (size t.sizes l) words long small in
        ap₂ (λ b rest. PR ++ (b ∷ rest)) lower_new (ap₂ ◌∷◌ higher_new words_new)

    records_more : joined (listed (with_pair t l h words).pairs) (pair_record (with_pair t l h words)) ≡ joined (listed t.pairs) (pair_record t) ++ (PR ++ (l ∷ h ∷ words))
    unfolding joined
    records_more =
        ap (λ n. joined n (pair_record (with_pair t l h words))) listed_more
        ∙ ap₂ ◌++◌ (joined_same (listed t.pairs) (pair_record (with_pair t l h words)) (pair_record t) record_kept) record_new

    named_more : l < boats t → ((k : ℕ) → k < listed t.pairs → lower t.pairs k < boats t)
        → (k : ℕ) → k < listed (with_pair t l h words).pairs → lower (with_pair t l h words).pairs k < boats t
    named_more there named k q = by (eq-or-lt_of_le (le_of_suc-le-suc (subst (λ n. k < n) listed_more q)))
      where
        by : (k ≡ listed t.pairs) ⊎ (k < listed t.pairs) → lower (with_pair t l h words).pairs k < boats t
        by (inl e) = rw (e, lower_new) there
        by (inr r) = rw (lower_kept k r) (named k r)

    rows_more : length (with_pair t l h words).rows ≡ start t.sizes (with_pair t l h words).pairs (listed (with_pair t l h words).pairs)
    rows_more =
        length-append t.rows (words_of (size t.sizes l) words)
        ∙ ap₂ ◌+◌ (row_words ∙ sym (start_kept (listed t.pairs) (omega arith))) (words_length (size t.sizes l) words ∙ ap (size t.sizes) (sym lower_new))
        ∙ sym (start_suc t.sizes (with_pair t l h words).pairs (listed t.pairs))
        ∙ ap (start t.sizes (with_pair t l h words).pairs) (sym listed_more)

one_more : (file : List ℕ) (t : Tables) (l h : ℕ) (words rest : List ℕ) → l < boats t → length words ≡ 8 * size t.sizes l → Below 256 words
    → Behind file t (PR ++ (l ∷ h ∷ (words ++ rest))) → Behind file (with_pair t l h words) rest
unfolding sizes_record
one_more file t l h words rest there long small b = record {
  two_bytes = omega (arith, b.two_bytes, listed_more t l h words b.two_bytes b.row_words, length-append t.pairs (l ∷ h ∷ []));
  row_words = rows_more t l h words b.two_bytes b.row_words long small;
  lower_named = named_more t l h words b.two_bytes b.row_words long small there b.lower_named;
  words = below_join t.rows (words_of (size t.sizes l) words) b.words (words_below (size t.sizes l) words long small);
  parts =
      b.parts
      ∙ ap (λ later. sizes_record t ++ later)
      (sym (append_assoc (joined (listed t.pairs) (pair_record t)) (PR ++ (l ∷ h ∷ words)) rest)
      ∙ ap (λ records. records ++ rest) (sym (records_more t l h words b.two_bytes b.row_words long small)));
}

-- ---- to the end
at_end_lem : (file : List ℕ) (t : Tables) (count : List ℕ) (u : Tables) → Below 256 count → Behind file t (ED ++ count) → EndTaken t count u → Whole u × (file_of u ≡ file)
unfolding file_of end_record
at_end_lem file t count u small b e =
    let bytes : bytes_of 2 (listed t.pairs) ≡ count =
    ap₂ bytes_of (sym e.long) (sym e.right) ∙ bytes_of_number count small in
    let few : number count < 256 ^ 2 = rw e.long at (number_below count small) in (
      subst Whole e.whole (record { two_bytes = b.two_bytes; few_pairs = omega (arith, e.right); lower_named = b.lower_named; row_words = b.row_words; words = b.words }),
      ap file_of (sym e.whole) ∙ ap (λ c. sizes_record t ++ (joined (listed t.pairs) (pair_record t) ++ (ED ++ c))) bytes ∙ sym b.parts,
    )

abbrev Ends : (most : ℕ) (file : List ℕ) (u : Tables) → Type 0
Ends most file u = (at : ℕ) (t : Tables) (bytes : List ℕ) → length bytes ≤ most → Below 256 bytes → Behind file t bytes → read_from at pairs_due t bytes ≡ read u → Whole u × (file_of u ≡ file)

-- a record of bytes, where fewer bytes come to the end
one_record : (most : ℕ) (file : List ℕ) (u : Tables) → Ends most file u → Ends (suc most) file u
one_record most file u fewer at t bytes q small b e = by (pairs_due_lem at t bytes u e)
  where
    pair : (later : List ℕ) → bytes ≡ PR ++ later → (p : PairTaken t later u) → Whole u × (file_of u ≡ file)
    pair later parts p =
        let all : bytes ≡ PR ++ (p.l ∷ p.h ∷ (p.words ++ p.rest)) = parts ∙ ap (λ l. PR ++ l) p.parts in
        let bounded : Below 256 ((PR ++ (p.l ∷ p.h ∷ [])) ++ (p.words ++ p.rest)) = subst (Below 256) all small in
        let content : Below 256 (p.words ++ p.rest) = below_right (PR ++ (p.l ∷ p.h ∷ [])) (p.words ++ p.rest) bounded in
        fewer p.place (with_pair t p.l p.h p.words) p.rest (omega (arith, ap length all, length-append p.words p.rest))
        (below_right p.words p.rest content)
        (one_more file t p.l p.h p.words p.rest p.there p.long (below_left p.words p.rest content) (subst (Behind file t) all b)) p.goes_on

    by : PairOrEnd t bytes u → Whole u × (file_of u ≡ file)
    by (inl p) = pair p.0 p.1 p.2
    by (inr c) = at_end_lem file t c.0 u (below_right ED c.0 (subst (Below 256) c.1 small)) (subst (Behind file t) c.1 b) c.2

no_bytes : (file : List ℕ) (u : Tables) → Ends 0 file u
no_bytes file u at t bytes q small b e = by (pairs_due_lem at t bytes u e)
  where
    by : PairOrEnd t bytes u → Whole u × (file_of u ≡ file)
    by (inl p) = absurd (omega (arith, ap length p.1))
    by (inr c) = absurd (omega (arith, ap length c.1))

from_behind : (most : ℕ) (file : List ℕ) (u : Tables) → Ends most file u
from_behind zero file u = no_bytes file u
from_behind (suc most) file u = one_record most file u (from_behind most file u)

pub one_file : (file : List ℕ) (t : Tables) → Below 256 file → reading file ≡ read t → Whole t × (file_of t ≡ file)
unfolding reading sizes_record joined
one_file file t small e =
    let z = sizes_due_lem 0 nothing file t e in
    let s = z.2 in
    let all : file ≡ SZ ++ (length s.sizes ∷ (s.sizes ++ s.rest)) = z.1 ∙ ap (λ l. SZ ++ l) s.parts in
    from_behind (length s.rest) file t s.place (sized s.sizes) s.rest (omega arith)
    (below_right (SZ ++ (length s.sizes ∷ s.sizes)) s.rest (subst (Below 256) all small))
    (record { two_bytes = refl; row_words = sym (start_zero s.sizes []); lower_named = λ k l. absurd (omega arith); words = λ i l. absurd (omega arith); parts = all })
    s.goes_on

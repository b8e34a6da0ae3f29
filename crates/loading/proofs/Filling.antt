-- The second pass: words read from the file, and parts of lent memory written one after another.
use mir.Syntax.{w64}
use mathlib.Core.Path.{◌≡◌, refl, sym, ap, ap₂, ◌∙◌}
use mathlib.Core.List.{List, [], ◌∷◌, ◌++◌, append_assoc, append-nil}
use Prim.Native.Nat.{ℕ, zero, suc, ◌+◌, ◌*◌, ◌^◌, ◌≤◌, ◌<◌}
use native.Mathlib.Numerals.{add-one}
use native.Mathlib.Omega.{arith}
use borrow.Rule.Slice.PartMut.{put_mid}
use lib.ListN.{length, get_or, take, drop, set, length-drop, drop_of_length-le}
use lib.Seq.{drop-drop, length-take-le, take_all, take_at, drop_at, set_at, take-suc}
use Rattle.std.specs.Int.{byte_worth, sum_through, from_le_bytes}
use Rattle.std.specs.List.{slice_index}
use Rattle.std.specs.Simd.{first_chunks}
use Rattle.files.specs.Bytes.{number, words_of}

-- ---- eight bytes as a word
times_through : (x y : ℕ) → x * (256 * y) ≡ 256 * (x * y)
times_through x y = grind arith

-- the weights of bytes behind a first one
weights_behind : (k b : ℕ) (bytes : List ℕ)
    → sum_through (λ i. byte_worth i (slice_index (b ∷ bytes) i)) (suc k) ≡ b + 256 * sum_through (λ i. byte_worth i (slice_index bytes i)) k
weights_behind zero b bytes = omega arith
weights_behind (suc k) b bytes =
    let x : ℕ = slice_index bytes (suc k) in
    let power : 256 ^ suc (suc k) ≡ 256 * 256 ^ suc k = omega arith in
    let last : x * 256 ^ suc (suc k) ≡ 256 * (x * 256 ^ suc k) = ap (λ p. x * p) power ∙ times_through x (256 ^ suc k) in
    ap (λ n. n + x * 256 ^ suc (suc k)) (weights_behind k b bytes) ∙ omega (arith, last)

by_weights : (k : ℕ) (bytes : List ℕ) → length bytes ≡ suc k → sum_through (λ i. byte_worth i (slice_index bytes i)) k ≡ number bytes
unfolding number
by_weights k [] e = absurd (omega arith)
by_weights zero (b ∷ []) e = omega arith
by_weights zero (b ∷ c ∷ bytes) e = absurd (omega arith)
by_weights (suc k) (b ∷ bytes) e = weights_behind k b bytes ∙ ap (λ n. b + 256 * n) (by_weights k bytes (omega arith))

-- the words of a PR, each as the code reads it
pub word_read : (m k : ℕ) (bytes : List ℕ) → length bytes ≡ 8 * m → k < m → from_le_bytes w64 (get_or (first_chunks 8 m bytes) k []) ≡ get_or (words_of m bytes) k 0
unfolding words_of
word_read zero k bytes e l = absurd (omega arith)
word_read (suc m) zero bytes e l = by_weights 7 (take 8 bytes) (length-take-le 8 bytes (omega arith))
word_read (suc m) (suc k) bytes e l = word_read m k (drop 8 bytes) (omega (arith, length-drop 8 bytes)) (omega arith)

-- ---- one more entry behind what is written
pub written_more : (front rest : List ℕ) (at w : ℕ) → length front ≡ at → 0 < length rest → set (front ++ rest) at w ≡ (front ++ (w ∷ [])) ++ drop 1 rest
written_more front [] at w e l = absurd (omega arith)
written_more front (x ∷ rest) at w e l = set_at front x rest w at e ∙ sym (append_assoc front (w ∷ []) rest)

-- a part of a list comes after what is written, in place of as many entries
pub put_next : (front list₀ list content : List ℕ) (at n : ℕ) → list ≡ front ++ drop at list₀ → length front ≡ at
    → put_mid at n list content ≡ (front ++ content) ++ drop (at + n) list₀
put_next front list₀ list content at n e l =
    ap (λ xs. put_mid at n xs content) e
    ∙ ap₂ (λ a b. a ++ (content ++ b)) (take_at front (drop at list₀) at l)
    (ap (drop n) (drop_at front (drop at list₀) at l) ∙ drop-drop n at list₀)
    ∙ sym (append_assoc front content (drop (at + n) list₀))

-- ---- the first k of some entries stand in the rows
pub record FirstOf (entries rows₀ : List ℕ) (k : ℕ) (rows : List ℕ) : Type 0 where
  pub are : rows ≡ take k entries ++ drop k rows₀

pub entries_begin : (entries rows₀ : List ℕ) → FirstOf entries rows₀ 0 rows₀
entries_begin entries rows₀ = record { are = refl }

pub entries_more : (entries rows₀ : List ℕ) (k : ℕ) (rows : List ℕ) (w : ℕ) → FirstOf entries rows₀ k rows → k < length entries → k < length rows₀
    → w ≡ get_or entries k 0 → FirstOf entries rows₀ (k + 1) (set rows k w)
entries_more entries rows₀ k rows w f l m e = record {
  are =
      ap₂ (λ rows w. set rows k w) f.are e
      ∙ written_more (take k entries) (drop k rows₀) k (get_or entries k 0) (length-take-le k entries (omega arith)) (omega (arith, length-drop k rows₀))
      ∙ ap₂ ◌++◌ (sym (take-suc entries k 0 l) ∙ ap (λ n. take n entries) (sym (add-one k))) (drop-drop 1 k rows₀);
}

pub entries_done : (entries rows₀ : List ℕ) (k : ℕ) (rows : List ℕ) → FirstOf entries rows₀ k rows → length entries ≤ k → length rows₀ ≤ k → rows ≡ entries
entries_done entries rows₀ k rows f l m = f.are ∙ ap₂ ◌++◌ (take_all k entries l) (drop_of_length-le rows₀ {i = k} m) ∙ append-nil entries

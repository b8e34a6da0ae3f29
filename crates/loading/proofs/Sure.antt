-- A file that is read has no fault anywhere: what the second pass relies on.
use mathlib.Core.Path.{◌≡◌, refl, sym, ap, ◌∙◌}
use mathlib.Core.Logic.{inl, inr}
use mathlib.Core.Bool.{Bool, true, false}
use mathlib.Core.List.{List, [], ◌∷◌}
use Prim.Native.Nat.{ℕ, zero, suc, ◌+◌, ◌*◌, ◌≤◌, ◌<◌}
use native.Mathlib.Omega.{arith}
use borrow.Author.Tests.{ltb-true, ltb-false}
use lib.Dec.{ltb}
use lib.ListN.{length, get_or, take, drop, length-append, length-drop}
use lib.Seq.{length-take-le}
use Rattle.problem.specs.Tables.{Tables, size}
use Rattle.problem.specs.Replies.{refused}
use Rattle.problem.proofs.Lowest.{not_both}
use Rattle.files.specs.Bytes.{words_of}
use Rattle.files.specs.File.{SZ, PR}
use Rattle.files.specs.Reading.{Reading, read, pairs_due, same, read_from, reading}
use Rattle.scanning.specs.Replies.{reading_told}
use Rattle.scanning.specs.Scanning.{SoFar, GoesOn, from_sizes}
use Rattle.files.proofs.Records.{PairOrEnd, pairs_due_lem, same_refl}
use Rattle.scanning.proofs.Meeting.{no_mark, no_lower, no_boat, no_words, pair_met, no_first_mark, no_sizes_mark, no_number, no_sizes, sizes_met}

not_refused : (r : Reading) (t : Tables) (number place : ℕ) → r ≡ read t → reading_told r ≡ refused number place → ⊥
not_refused r t number place e q = omega (arith, ap (λ w. w.number) (sym (ap reading_told e) ∙ q))

-- so a bound without which it is refused holds
sure_le : (r : Reading) (t : Tables) (number place least most : ℕ) → r ≡ read t → (most < least → reading_told r ≡ refused number place) → least ≤ most
sure_le r t number place least most e refuse = by (ltb most least) refl
  where
    by : (b : Bool) → ltb most least ≡ b → least ≤ most
    by true q = absurd (not_refused r t number place e (refuse (ltb-true _ _ q)))
    by false q = ltb-false _ _ q

-- ---- what is read only grows
abbrev Grows : Tables → Tables → Type 0
Grows s t = (length s.pairs ≤ length t.pairs) × (length s.rows ≤ length t.rows) × (s.sizes ≡ t.sizes)

grows : (most at : ℕ) (s : Tables) (bytes : List ℕ) (t : Tables) → length bytes ≤ most → read_from at pairs_due s bytes ≡ read t → Grows s t
grows zero at s bytes t l e = by (pairs_due_lem at s bytes t e)
  where
    by : PairOrEnd s bytes t → Grows s t
    by (inl p) = absurd (omega (arith, ap length p.1))
    by (inr p) = absurd (omega (arith, ap length p.1))
grows (suc most) at s bytes t l e = by (pairs_due_lem at s bytes t e) (grows most)
  where
    by : PairOrEnd s bytes t → ((at : ℕ) (s : Tables) (bytes : List ℕ) (t : Tables) → length bytes ≤ most → read_from at pairs_due s bytes ≡ read t → Grows s t) → Grows s t
    by (inl p) rec =
        let q = p.2 in
        let g = rec q.place _ q.rest t (omega (arith, ap length p.1, ap length q.parts, length-append q.words q.rest)) q.goes_on in
        (omega (arith, g.0, length-append s.pairs (q.l ∷ q.h ∷ [])), omega (arith, g.1, length-append s.rows (words_of (size s.sizes q.l) q.words)), g.2)
    by (inr p) rec =
        (omega (arith, ap (λ u. length u.pairs) p.2.whole), omega (arith, ap (λ u. length u.rows) p.2.whole), ap (λ u. u.sizes) p.2.whole)

module _ (file : List ℕ) (at n pairs words : ℕ) (inside : at ≤ length file) (front : 3 + n ≤ at) (s : Tables) (so : SoFar file n pairs words s) (t : Tables)
    (e : read_from at pairs_due s (drop at file) ≡ read t) where
  pub sure_mark : at + 2 ≤ length file
  sure_mark = sure_le _ t 22 (length file) _ _ e (λ l. no_mark file at n inside front l s)

  -- where no PR comes, all is read
  pub sure_end : same (take 2 (drop at file)) PR ≡ false → s ≡ t
  sure_end q = by (pairs_due_lem at s (drop at file) t e)
    where
      by : PairOrEnd s (drop at file) t → s ≡ t
      by (inl p) = absurd (not_both (ap (λ bytes. same (take 2 bytes) PR) p.1 ∙ same_refl PR) q)
      by (inr p) = p.2.whole

  module _ (pr : same (take 2 (drop at file)) PR ≡ true) where
    pub sure_lower : at + 3 ≤ length file
    sure_lower = sure_le _ t 22 (length file) _ _ e (λ l. no_lower file at n inside front sure_mark pr l s)

    module _ (l : ℕ) (is : l ≡ get_or file (at + 2) 0) where
      pub sure_there : l < n
      sure_there = sure_le _ t 23 (at + 2) (suc l) n e (λ m. no_boat file at n inside front sure_mark pr sure_lower pairs words s so l is (omega arith))

      module _ (slots : ℕ) (are : slots ≡ get_or file (3 + l) 0) where
        pub sure_words : at + (4 + 8 * slots) ≤ length file
        sure_words = sure_le _ t 22 (length file) _ _ e (no_words file at n inside front sure_mark pr sure_lower pairs words s so l is sure_there slots are)

        pub sure_on : GoesOn file n at pairs slots words s
        sure_on = pair_met file at n inside front sure_mark pr sure_lower pairs words s so l is sure_there slots are sure_words

        pub sure_read : read_from (at + (4 + 8 * slots)) pairs_due sure_on.grown (drop (at + (4 + 8 * slots)) file) ≡ read t
        sure_read = sym sure_on.on ∙ e

        -- the tables have room for one pair and so many words more
        pub sure_room : (2 * pairs + 2 ≤ length t.pairs) × (words + slots ≤ length t.rows)
        sure_room =
            let g = grows (length (drop (at + (4 + 8 * slots)) file)) (at + (4 + 8 * slots)) sure_on.grown (drop (at + (4 + 8 * slots)) file) t (omega arith) sure_read in
            (omega (arith, g.0, sure_on.so_far.pair_bytes), omega (arith, g.1, sure_on.so_far.row_words))

-- ---- from the start: the sizes, and the first mark after SZ
pub record Started (file : List ℕ) (t : Tables) : Type 0 where
  pub front : 3 + length t.sizes ≤ length file
  pub sizes_are : t.sizes ≡ take (length t.sizes) (drop 3 file)
  pub is_read : from_sizes file (length t.sizes) ≡ read t

module _ (file : List ℕ) (t : Tables) (e : reading file ≡ read t) where
  two_there : 2 ≤ length file
  two_there = sure_le _ t 22 (length file) _ _ e (no_first_mark file)

  is_sizes : same (take 2 file) SZ ≡ true
  is_sizes = by (same (take 2 file) SZ) refl
    where
      by : (b : Bool) → same (take 2 file) SZ ≡ b → same (take 2 file) SZ ≡ true
      by true q = q
      by false q = absurd (not_refused _ t 21 0 e (no_sizes_mark file two_there q))

  three_there : 3 ≤ length file
  three_there = sure_le _ t 22 (length file) _ _ e (no_number file two_there is_sizes)

  sizes_there : 3 + get_or file 2 0 ≤ length file
  sizes_there = sure_le _ t 22 (length file) _ _ e (no_sizes file two_there is_sizes three_there (get_or file 2 0) refl)

  pub started : Started file t
  started =
      let n : ℕ = get_or file 2 0 in
      let on : from_sizes file n ≡ read t = sym (sizes_met file two_there is_sizes three_there n refl sizes_there) ∙ e in
      let kept : take n (drop 3 file) ≡ t.sizes = (grows (length (drop (3 + n) file)) (3 + n) _ (drop (3 + n) file) t (omega arith) on).2 in
      let long : n ≡ length t.sizes = sym (length-take-le n (drop 3 file) (omega (arith, length-drop 3 file, sizes_there))) ∙ ap length kept in
      record {
        front = rw (← long) sizes_there;
        sizes_are = sym kept ∙ ap (λ m. take m (drop 3 file)) long;
        is_read = ap (from_sizes file) (sym long) ∙ on;
      }

-- A word is a row of the pair whose rows hold it, and its cause is read off that pair.
use mathlib.Core.Path.{◌≡◌, refl, sym, ap, ◌∙◌, subst}
use mathlib.Core.Bool.{Bool, true, false}
use mathlib.Core.List.{List}
use Prim.Native.Nat.{ℕ, zero, suc, ◌+◌, ◌-◌, ◌/◌, ◌^◌, ◌≤◌, ◌<◌}
use native.Mathlib.Nat.{le_refl, le_antisymm, le_of_suc-le-suc, le-div_iff_mul-le, div-lt_iff_lt-mul}
use native.Mathlib.Omega.{arith}
use borrow.Author.Tests.{ltb-true, ltb-false, leb-true, leb-false, lt-ltb, le-ltb, lt-leb}
use lib.Dec.{ltb, leb}
use lib.ListN.{length, get_or}
use lib.Pow.{pow_pos}
use Rattle.std.specs.Prelude.{Some, None}
use Rattle.problem.specs.Lowest.{lowest, IsLowestFrom}
use Rattle.problem.specs.Tables.{Tables, size, listed, lower, higher, start, row}
use Rattle.problem.proofs.Lowest.{Lowest, lowest_from_is, lowest_here, lowest_fails, lowest_passes, lowest_before}
use Rattle.problem.proofs.Starts.{start_zero, start_suc, start_mono, start_within}
use Rattle.tables.specs.Examination.{pair_of_word, bad_word}

-- a word shifted down by a size is not 0 exactly when the word has a bit at or above it
pub shifted_wide : (word bits : ℕ) → ltb 0 (word / 2 ^ bits) ≡ leb (2 ^ bits) word
shifted_wide word bits = by (leb (2 ^ bits) word) refl
  where
    by : (b : Bool) → leb (2 ^ bits) word ≡ b → ltb 0 (word / 2 ^ bits) ≡ b
    by true e = lt-ltb 0 _ ((le-div_iff_mul-le (pow_pos bits)).1 (omega (arith, leb-true (2 ^ bits) word e)))
    by false e = le-ltb 0 _ (le_of_suc-le-suc ((div-lt_iff_lt-mul (pow_pos bits)).1 (omega (arith, leb-false (2 ^ bits) word e))))

pub pair_of_word_lem : (sizes pairs : List ℕ) (k w : ℕ) → k < listed pairs → start sizes pairs k ≤ w → w < start sizes pairs (suc k) → pair_of_word sizes pairs w ≡ k
unfolding pair_of_word
pair_of_word_lem sizes pairs k w l from upto =
    lowest_here (listed pairs) (λ j. ltb w (start sizes pairs (suc j))) k l
    (λ j h. le-ltb w (start sizes pairs (suc j)) (omega (arith, start_mono sizes pairs (suc j) k h)))
    (lt-ltb w (start sizes pairs (suc k)) upto)

module _ (t : Tables) (k : ℕ) (l : k < listed t.pairs) where
  pub word_of_pair : (w : ℕ) → start t.sizes t.pairs k ≤ w → w < start t.sizes t.pairs (suc k)
      → bad_word t w ≡ leb (2 ^ size t.sizes (higher t.pairs k)) (get_or t.rows w 0)
  unfolding bad_word
  word_of_pair w from upto =
      ap (λ j. leb (2 ^ size t.sizes (higher t.pairs j)) (get_or t.rows w 0)) (pair_of_word_lem t.sizes t.pairs k w l from upto)

-- a walk of the words, pair by pair: at pair k it has found no bad word, and the word at hand is the first of the pair's
pub record Walked (t : Tables) (k word : ℕ) : Type 0 where
  pub upto : k ≤ listed t.pairs
  pub first : word ≡ start t.sizes t.pairs k
  pub good : (w : ℕ) → w < word → bad_word t w ≡ false

pub walk_begins : (t : Tables) → Walked t 0 0
walk_begins t = record { upto = omega arith; first = sym (start_zero t.sizes t.pairs); good = λ w h. absurd (omega arith) }

module _ {t : Tables} {k word : ℕ} (so : Walked t k word) (whole : length t.rows ≡ start t.sizes t.pairs (listed t.pairs)) where
  -- the pair at hand has so many words
  module _ (l : k < listed t.pairs) {count : ℕ} (ct : count ≡ size t.sizes (lower t.pairs k)) where
    walk_next : word + count ≡ start t.sizes t.pairs (suc k)
    walk_next = omega (arith, start_suc t.sizes t.pairs k, so.first)

    pub walk_inside : word + count ≤ length t.rows
    walk_inside = omega (arith, so.first, start_within t.sizes t.pairs k l)

    -- its higher boat has so many slots: its words are looked at, up to the next pair's
    module _ {bits : ℕ} (bt : bits ≡ size t.sizes (higher t.pairs k)) where
      abbrev wide_word : ℕ → Bool
      wide_word w = leb (2 ^ bits) (get_or t.rows w 0)

      bad_wide : (w : ℕ) → word ≤ w → w < word + count → bad_word t w ≡ wide_word w
      bad_wide w h i =
          word_of_pair t k l w (omega (arith, so.first)) (omega (arith, walk_next)) ∙ ap (λ s. leb (2 ^ s) (get_or t.rows w 0)) (sym bt)

      module _ {wide : ℕ} (found : Lowest wide_word word (word + count - word) wide) where
        fails : (w : ℕ) → w < wide → bad_word t w ≡ false
        fails w h = by (ltb w word) refl
          where
            by : (b : Bool) → ltb w word ≡ b → bad_word t w ≡ false
            by true e = so.good w (ltb-true _ _ e)
            by false e =
                let i = ltb-false w word e in
                bad_wide w i (omega (arith, found.upto)) ∙ found.fails w i h

      -- a wide one is the lowest bad word
      pub walk_stops : {w : ℕ} → IsLowestFrom (Some w) word (word + count - word) wide_word →
          (w < length t.rows) × ((j : ℕ) → j < w → bad_word t j ≡ false) × (bad_word t w ≡ true)
      walk_stops {w} is =
          let found : Lowest wide_word word (word + count - word) w = rw is.1 (lowest_from_is wide_word word (word + count - word)) in
          let inside : w < word + count = omega (arith, is.0) in
          (omega (arith, walk_inside), fails found, bad_wide w found.from inside ∙ found.passes is.0)

      -- where there is none, the walk goes on
      pub walk_goes : IsLowestFrom None word (word + count - word) wide_word → Walked t (suc k) (word + count)
      walk_goes none =
          let found : Lowest wide_word word (word + count - word) (word + count) =
          subst (Lowest wide_word word (word + count - word)) (omega (arith, none)) (lowest_from_is wide_word word (word + count - word)) in
          record { upto = l; first = walk_next; good = fails found }

  pub walk_ends : listed t.pairs ≤ k → (w : ℕ) → w < length t.rows → bad_word t w ≡ false
  walk_ends h w i =
      let e : word ≡ length t.rows = so.first ∙ ap (start t.sizes t.pairs) (le_antisymm so.upto h) ∙ sym whole in
      so.good w (omega arith)

-- every word is a row of its pair
module _ (sizes pairs : List ℕ) (w : ℕ) where
  begins : (k : ℕ) → k ≤ pair_of_word sizes pairs w → start sizes pairs k ≤ w
  unfolding pair_of_word
  begins zero h = omega (arith, start_zero sizes pairs)
  begins (suc k) h = ltb-false w (start sizes pairs (suc k)) (lowest_fails (listed pairs) (λ j. ltb w (start sizes pairs (suc j))) k h)

  pub word_begins : start sizes pairs (pair_of_word sizes pairs w) ≤ w
  word_begins = begins (pair_of_word sizes pairs w) (le_refl _)

  module _ (inside : w < start sizes pairs (listed pairs)) where
    pub word_listed : pair_of_word sizes pairs w < listed pairs
    unfolding pair_of_word
    word_listed = by (listed pairs) refl
      where
        by : (n : ℕ) → listed pairs ≡ n → lowest (listed pairs) (λ j. ltb w (start sizes pairs (suc j))) < listed pairs
        by zero e = absurd (omega (arith, start_zero sizes pairs, ap (start sizes pairs) e))
        by (suc n) e =
            omega (
              arith,
              lowest_before (listed pairs) (λ j. ltb w (start sizes pairs (suc j))) n (omega arith) (lt-ltb w (start sizes pairs (suc n)) (rw (← e) inside)),
            )

    pub word_ends : w < start sizes pairs (suc (pair_of_word sizes pairs w))
    unfolding pair_of_word
    word_ends = ltb-true _ _ (lowest_passes (listed pairs) (λ j. ltb w (start sizes pairs (suc j))) word_listed)

-- no word is bad where no row has a bit at or above its higher boat's size, and the other way round
module _ (t : Tables) (whole : length t.rows ≡ start t.sizes t.pairs (listed t.pairs)) where
  pub rows_good : ((k a : ℕ) → k < listed t.pairs → a < size t.sizes (lower t.pairs k) → row t k a < 2 ^ size t.sizes (higher t.pairs k))
      → (w : ℕ) → w < length t.rows → bad_word t w ≡ false
  unfolding bad_word
  rows_good bits w h =
      let inside : w < start t.sizes t.pairs (listed t.pairs) = omega arith in
      let k = pair_of_word t.sizes t.pairs w in
      let from = word_begins t.sizes t.pairs w in
      let upto = word_ends t.sizes t.pairs w inside in
      let e : start t.sizes t.pairs k + (w - start t.sizes t.pairs k) ≡ w = omega arith in
      lt-leb _ _
      (rw e at
      (bits k (w - start t.sizes t.pairs k) (word_listed t.sizes t.pairs w inside) (omega (arith, start_suc t.sizes t.pairs k))))

  pub good_rows : ((w : ℕ) → w < length t.rows → bad_word t w ≡ false)
      → (k a : ℕ) → k < listed t.pairs → a < size t.sizes (lower t.pairs k) → row t k a < 2 ^ size t.sizes (higher t.pairs k)
  good_rows good k a l h =
      let w = start t.sizes t.pairs k + a in
      let upto : w < start t.sizes t.pairs (suc k) = omega (arith, start_suc t.sizes t.pairs k) in
      let inside : w < length t.rows = omega (arith, start_within t.sizes t.pairs k l) in
      leb-false _ _ (sym (word_of_pair t k l w (omega arith) upto) ∙ good w inside)

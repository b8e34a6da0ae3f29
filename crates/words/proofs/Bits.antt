-- A set of boats as one word: members, union, a single boat, what lies below a boat, the deepest.
use mathlib.Core.Path.{◌≡◌, refl, sym, ◌∙◌, ap}
use mathlib.Core.Bool.{Bool, true, false, cond, not, ◌&&◌, ◌||◌, and-true, and-false, or_comm}
use mathlib.Core.Option.{none, some}
use Prim.Native.Nat.{ℕ, zero, suc, ◌+◌, ◌-◌, ◌*◌, ◌/◌, ◌%◌, ◌^◌, ◌≤◌, ◌<◌, min, max}
use native.Mathlib.Omega.{arith}
use native.Mathlib.Decide.{dec_lt, ℕ_discrete}
use native.Mathlib.Numerals.{add-one}
use native.Mathlib.Nat.{le_refl, lt_of_lt_of_le, mod-lt, zero-lt-suc, div-eq_of_lt, div-eq_of_lt-le, pow-suc, one-mul, mul-mod_left, mod-eq_of_lt, mod-eq-sub-mod}
use lib.Dec.{eqb, ltb}
use lib.Arith.{digits_mod}
use lib.Pow.{pow_pos, pow-lt, pow_mono, field, mod-mod-pow, pow-add, shl-shr}
use lib.Bits.{bit_and, bit_or, and_shr, and_step, or_shr, or_step, or_lt, or_add_and, and_le_r}
use lib.Count.{count_leading_zeros, leading_top}
use borrow.Author.Tests.{eq-eqb, ne_eqb, lt-ltb, le-ltb}
use Rattle.problem.specs.Tables.{bit}
use Rattle.methods.specs.Moves.{Boats}
use Rattle.methods.specs.CBJ.{deepest}
use Rattle.words.specs.Sets.{WithMember, Deepest, HandedDown}

-- two digits, case by case
pub digits : (P : ℕ → ℕ → Type 0) → P 0 0 → P 0 1 → P 1 0 → P 1 1 → (x y : ℕ) → x < 2 → y < 2 → P x y
digits P a b c d zero zero hx hy = a
digits P a b c d zero (suc zero) hx hy = b
digits P a b c d (suc zero) zero hx hy = c
digits P a b c d (suc zero) (suc zero) hx hy = d
digits P a b c d zero (suc (suc y)) hx hy = absurd (omega arith)
digits P a b c d (suc zero) (suc (suc y)) hx hy = absurd (omega arith)
digits P a b c d (suc (suc x)) y hx hy = absurd (omega arith)

-- an operation that works digit by digit: what d makes of two digits, g makes of two tests
module _ (op d : ℕ → ℕ → ℕ) (g : Bool → Bool → Bool) (shr : (v w k : ℕ) → op v w / 2 ^ k ≡ op (v / 2 ^ k) (w / 2 ^ k))
    (next : (x y : ℕ) → op x y ≡ op (x / 2) (y / 2) * 2 + d (x % 2) (y % 2))
    (digit : (x y : ℕ) → x < 2 → y < 2 → (d x y < 2) × (eqb (d x y) 1 ≡ g (eqb x 1) (eqb y 1))) where
  bit_each : (v w j : ℕ) → bit (op v w) j ≡ g (bit v j) (bit w j)
  bit_each v w j =
      let x = v / 2 ^ j in
      let y = w / 2 ^ j in
      let two = digit (x % 2) (y % 2) (mod-lt x (zero-lt-suc 1)) (mod-lt y (zero-lt-suc 1)) in
      ap (λ (n : ℕ). eqb (n % 2) 1) (shr v w j ∙ next x y) ∙ ap (λ (n : ℕ). eqb n 1) (digits_mod (op (x / 2) (y / 2)) two.0) ∙ two.1

pub bit_or_lem : (v w j : ℕ) → bit (bit_or v w) j ≡ (bit v j || bit w j)
bit_or_lem =
    bit_each bit_or max ◌||◌ or_shr or_step
    (digits (λ x y. (max x y < 2) × (eqb (max x y) 1 ≡ (eqb x 1 || eqb y 1))) (omega arith, refl) (omega arith, refl) (omega arith, refl) (omega arith, refl))

pub bit_and_lem : (v w j : ℕ) → bit (bit_and v w) j ≡ (bit v j && bit w j)
bit_and_lem =
    bit_each bit_and min ◌&&◌ and_shr and_step
    (digits (λ x y. (min x y < 2) × (eqb (min x y) 1 ≡ (eqb x 1 && eqb y 1))) (omega arith, refl) (omega arith, refl) (omega arith, refl) (omega arith, refl))

pub bit_high : (w j : ℕ) → w < 2 ^ j → bit w j ≡ false
bit_high w j h = ap (λ (n : ℕ). eqb (n % 2) 1) (div-eq_of_lt h)

pub bit_zero : (j : ℕ) → bit 0 j ≡ false
bit_zero j = bit_high 0 j (pow_pos j)

pub bit_top : (w j : ℕ) → 2 ^ j ≤ w → w < 2 ^ suc j → bit w j ≡ true
bit_top w j lo hi =
    let e : w / 2 ^ j ≡ 1 = div-eq_of_lt-le {k = 1} (2 ^ j) (omega arith) (omega arith) in
    ap (λ (n : ℕ). eqb (n % 2) 1) e

-- what lies below boat h
pub bit_below : (w h j : ℕ) → bit (w % 2 ^ h) j ≡ (bit w j && ltb j h)
bit_below w h j = by_case (dec_lt j h)
  where
    low : (d : ℕ) → h ≡ suc d + j → bit (w % 2 ^ h) j ≡ bit w j
    low d e =
        ap (λ (m : ℕ). eqb (w % 2 ^ m / 2 ^ j % 2) 1) e
        ∙ ap (λ (m : ℕ). eqb (m % 2) 1) (field w (suc d) j)
        ∙ ap (λ (m : ℕ). eqb m 1) (ap (λ (m : ℕ). (w / 2 ^ j) % 2 ^ m % 2) (omega arith) ∙ mod-mod-pow (w / 2 ^ j) d 1)

    by_case : Dec (j < h) → bit (w % 2 ^ h) j ≡ (bit w j && ltb j h)
    by_case (yes y) = low (h - suc j) (omega arith) ∙ sym (ap (λ (b : Bool). bit w j && b) (lt-ltb j h y) ∙ and-true (bit w j))
    by_case (no ny) =
        bit_high (w % 2 ^ h) j (lt_of_lt_of_le (mod-lt w (pow_pos h)) (pow_mono (omega arith)))
        ∙ sym (ap (λ (b : Bool). bit w j && b) (le-ltb j h (omega arith)) ∙ and-false (bit w j))

-- a single boat
pub bit_single : (h j : ℕ) → bit (2 ^ h) j ≡ eqb j h
bit_single h j = by_case (dec_lt j h) (ℕ_discrete j h)
  where
    half : (d : ℕ) → h ≡ suc d + j → 2 ^ h / 2 ^ j % 2 ≡ 0
    half d e =
        ap (λ (m : ℕ). 2 ^ m / 2 ^ j % 2) e
        ∙ ap (λ (m : ℕ). m / 2 ^ j % 2) (pow-add 2 (suc d) j)
        ∙ ap (λ (m : ℕ). m % 2) (shl-shr (2 ^ suc d) j ∙ pow-suc 2 d)
        ∙ mul-mod_left (2 ^ d) 2

    by_case : Dec (j < h) → Dec (j ≡ h) → bit (2 ^ h) j ≡ eqb j h
    by_case (yes y) d = ap (λ (m : ℕ). eqb m 1) (half (h - suc j) (omega arith)) ∙ sym (ne_eqb j h (omega arith))
    by_case (no ny) (yes e) = rw (eq-eqb j h e, e) (bit_top (2 ^ h) h (le_refl (2 ^ h)) (pow-lt (omega arith)))
    by_case (no ny) (no ne) = bit_high (2 ^ h) j (pow-lt (omega arith)) ∙ sym (ne_eqb j h ne)

-- ---- the deepest member

pub deepest_is : (i j : ℕ) (s : Boats) → j < i → s j ≡ true → ((k : ℕ) → j < k → k < i → s k ≡ false) → deepest i s ≡ some j
unfolding deepest
deepest_is zero j s lj t above = absurd (omega arith)
deepest_is (suc i) j s lj t above = by_case (ℕ_discrete j i) (λ l. deepest_is i j s l t (λ k lk lki. above k lk (omega arith)))
  where
    by_case : Dec (j ≡ i) → (j < i → deepest i s ≡ some j) → cond (s i) (some i) (deepest i s) ≡ some j
    by_case (yes y) rec = let z : s i ≡ true = rw y at t in rw z (ap some (sym y))
    by_case (no ny) rec = rw (above i (omega arith) (omega arith)) (rec (omega arith))

pub deepest_empty : (i : ℕ) (s : Boats) → ((k : ℕ) → k < i → s k ≡ false) → deepest i s ≡ none
unfolding deepest
deepest_empty zero s all = refl
deepest_empty (suc i) s all = rw (all i (omega arith)) (deepest_empty i s (λ k lk. all k (omega arith)))

-- ---- what the code makes of a word
-- `1 << h`, for h below 64
pub shl_one : (h : ℕ) → h < 64 → 1 * 2 ^ h % 2 ^ 64 ≡ 2 ^ h
shl_one h lt = rw one-mul (mod-eq_of_lt (pow-lt lt))

pub or_ge : (a b : ℕ) → a ≤ bit_or a b
or_ge a b = omega (arith, or_add_and a b, and_le_r a b)

pub inserted : (s h : ℕ) → WithMember s h (bit_or s (2 ^ h))
inserted s h =
    record {
      members = λ j. bit_or_lem s (2 ^ h) j ∙ ap (λ (b : Bool). bit s j || b) (bit_single h j);
      below = λ i lt ls. or_lt i s (2 ^ h) ls (pow-lt lt);
    }

pub deepest_top : (s : ℕ) → 0 < s → s < 2 ^ 64 → (count_leading_zeros 64 s ≤ 63) × Deepest s (63 - count_leading_zeros 64 s)
deepest_top s pos lt =
    let top = leading_top 64 s pos lt in
    let e : 63 - count_leading_zeros 64 s ≡ top.0 = omega (arith, top.1) in (
      omega (arith, top.1),
      rw e
          (record {
            small = omega (arith, top.1);
            member = bit_top s top.0 top.2 top.3;
            above = λ j lj. bit_high s j (lt_of_lt_of_le top.3 (pow_mono lj));
            low = top.2;
            high = rw add-one top.3;
          }),
    )

-- the union of s and u without h, the deepest of s
module _ (s u h : ℕ) (lo : 2 ^ h ≤ s) (hi : s < 2 ^ (h + 1)) (lu : u < 2 ^ h) where
  twice : 2 ^ (h + 1) ≡ 2 ^ h * 2
  twice = pow-add 2 h 1

  union_lt : bit_or s u < 2 ^ (h + 1)
  union_lt = or_lt (h + 1) s u hi (omega (arith, twice, pow_pos h))

  union_mod : bit_or s u - 2 ^ h ≡ bit_or s u % 2 ^ h
  union_mod =
      let v = union_lt in
      let o : s ≤ bit_or s u = or_ge s u in
      let e = twice in
      sym (mod-eq-sub-mod (omega arith) ∙ mod-eq_of_lt (omega arith))

  union_bit : (j : ℕ) → ((bit s j || bit u j) && ltb j h) ≡ ((bit u j || bit s j) && not (eqb j h))
  union_bit j = by_case (dec_lt j h) (ℕ_discrete j h)
    where
      by_case : Dec (j < h) → Dec (j ≡ h) → ((bit s j || bit u j) && ltb j h) ≡ ((bit u j || bit s j) && not (eqb j h))
      by_case (yes y) d = rw (ne_eqb j h (omega arith), lt-ltb j h y, or_comm (bit s j) (bit u j))
      by_case (no ny) (yes e) = rw (eq-eqb j h e, le-ltb j h (omega arith), and-false (bit s j || bit u j), and-false (bit u j || bit s j))
      by_case (no ny) (no ne) =
          let e : 2 ^ (h + 1) ≤ 2 ^ j = pow_mono (omega arith) in
          rw (bit_high u j (omega (arith, twice)), bit_high s j (omega arith))

  pub handed : HandedDown s u h (bit_or s u - 2 ^ h)
  handed =
      record {
        members = λ j. ap (λ (v : ℕ). bit v j) union_mod ∙ bit_below (bit_or s u) h j ∙ ap (λ (b : Bool). b && ltb j h) (bit_or_lem s u j) ∙ union_bit j;
        below = let v = union_lt in let e = twice in let p = pow_pos h in omega arith;
      }

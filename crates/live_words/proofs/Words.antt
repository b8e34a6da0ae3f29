-- Words by their bits.
use mathlib.Core.Path.{◌≡◌, sym, ap, ◌∙◌}
use mathlib.Core.Bool.{Bool, ◌&&◌, and_assoc, and_comm}
use Prim.Native.Nat.{ℕ, ◌+◌, ◌-◌, ◌/◌, ◌%◌, ◌^◌, ◌≤◌, ◌<◌}
use native.Mathlib.Omega.{arith}
use native.Mathlib.Decide.{dec_lt}
use native.Mathlib.Nat.{div-le_self}
use lib.Dec.{ltb, eqb}
use lib.Pow.{shr-shr}
use lib.Count.{count_trailing_zeros}
use Rattle.std.specs.Int.{bit_at, w64}
use Rattle.std.specs.Int.Count.{trailing_of_zero}
use Rattle.std.proofs.lemmas.Bool.Decides.{nat_tests}
use Rattle.std.proofs.lemmas.Nat.Bits.{bit_at-lt, bit_at_ones, bit_at_ones_above, bit_at-trailing_zeros, same_from_bits_below}
use Rattle.problem.specs.Tables.{bit}
use Rattle.words.proofs.Bits.{bit_zero}
use Rattle.live_words.specs.Slots.{NextLive}

pub and_swap : (x y z : Bool) → ((x && y) && z) ≡ ((x && z) && y)
and_swap x y z = and_assoc x y z ∙ ap (λ (b : Bool). x && b) (and_comm y z) ∙ sym (and_assoc x z y)

-- words with the same bits are the same
digit_same : (x y b : ℕ) → bit x b ≡ bit y b → bit_at x b ≡ bit_at y b
digit_same x y b e = grind (arith, nat_tests, bit_at-lt x b, bit_at-lt y b)

pub bits_same : (n x y : ℕ) → x < 2 ^ n → y < 2 ^ n → ((b : ℕ) → b < n → bit x b ≡ bit y b) → x ≡ y
bits_same n x y hx hy e = same_from_bits_below n x y hx hy (λ b l. digit_same x y b (e b l))

-- n ones
pub bit_ones : (n b : ℕ) → bit (2 ^ n - 1) b ≡ ltb b n
bit_ones n b = grind (arith, nat_tests, bit_at_ones n b, bit_at_ones_above n b)

-- ---- the digits from one on: those below the lowest that is set, and that one itself
module _ (w from : ℕ) where
  shifted : (k : ℕ) → from ≤ k → bit w k ≡ bit (w / 2 ^ from) (k - from)
  shifted k l =
      let z : from + (k - from) ≡ k = omega arith in
      sym (ap (λ (n : ℕ). eqb (n % 2) 1) (shr-shr w from (k - from) ∙ ap (λ (n : ℕ). w / 2 ^ n) z))

  pub next_is : w < 2 ^ 64 → NextLive w from (from + count_trailing_zeros 64 (w / 2 ^ from))
  next_is fits = by (dec_lt 0 (w / 2 ^ from))
    where
      by : Dec (0 < w / 2 ^ from) → NextLive w from (from + count_trailing_zeros 64 (w / 2 ^ from))
      by (yes some) =
          let z = bit_at-trailing_zeros w64 (w / 2 ^ from) some (omega (arith, div-le_self w (2 ^ from))) in
          let e : from + count_trailing_zeros 64 (w / 2 ^ from) - from ≡ count_trailing_zeros 64 (w / 2 ^ from) = omega arith in
          record {
            onward = omega arith;
            dead = λ k lo hi. shifted k lo ∙ ap (λ (d : ℕ). eqb d 1) (z.2 (k - from) (omega arith));
            alive = λ l. shifted _ (omega arith) ∙ rw e (ap (λ (d : ℕ). eqb d 1) z.1);
          }
      by (no none) =
          let z : w / 2 ^ from ≡ 0 = omega arith in
          rw (z, trailing_of_zero 64)
          (record { onward = omega arith; dead = λ k lo hi. shifted k lo ∙ (rw z (bit_zero (k - from))); alive = λ l. absurd (omega arith) })

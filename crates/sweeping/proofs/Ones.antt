-- The bits of a word: a word without any, and how many are set.
use mathlib.Core.Path.{◌≡◌, refl, sym, ap, ◌∙◌}
use mathlib.Core.Logic.{◌⊎◌, inl, inr}
use mathlib.Core.Bool.{Bool, true, false, ◌&&◌}
use mathlib.Mathlib.Data.Bool.Basic.{eq-false_of_not-eq-true, eq-true_of_not-eq-false}
use Prim.Native.Nat.{ℕ, zero, suc, ◌+◌, ◌/◌, ◌%◌, ◌^◌, ◌≤◌, ◌<◌}
use native.Mathlib.Omega.{arith}
use native.Mathlib.Decide.{dec_lt}
use native.Mathlib.Nat.{mod-lt, zero-lt-suc, eq-or-lt_of_le, le_of_suc-le-suc}
use lib.Dec.{eqb, ltb}
use lib.Arith.{lt-one}
use lib.Pow.{pow_pos, mod-pow-add}
use lib.Count.{ones, ones_step, ones_cat}
use borrow.Author.Tests.{lt-ltb, ltb-true}
use Rattle.problem.specs.Tables.{bit}
use Rattle.problem.proofs.Lowest.{not_both}
use Rattle.problem.proofs.Places.{both_true, is_true, to_true}
use Rattle.methods.specs.Moves.{some?}
use Rattle.methods.proofs.Ahead.{some?_elim, some?_none}
use Rattle.words.proofs.Bits.{bit_zero, bit_top}

-- ---- a word whose bits from n on are not set
pub short : (n m w : ℕ) → n ≤ m → w < 2 ^ m → ((b : ℕ) → n ≤ b → b < m → bit w b ≡ false) → w < 2 ^ n
short n zero w l h f = let e : n ≡ 0 = omega arith in rw e h
short n (suc m) w l h f = by (eq-or-lt_of_le l) (dec_lt w (2 ^ m)) (λ g k. short n m w g k (λ b lb ub. f b lb (omega arith)))
  where
    by : (n ≡ suc m) ⊎ (n < suc m) → Dec (w < 2 ^ m) → (n ≤ m → w < 2 ^ m → w < 2 ^ n) → w < 2 ^ n
    by (inl e) d rec = rw e h
    by (inr g) (yes k) rec = rec (le_of_suc-le-suc g) k
    by (inr g) (no nk) rec = absurd (not_both (bit_top w m (omega arith) h) (f m (le_of_suc-le-suc g) (omega arith)))

-- some number below n passes a test where a word with a bit for each is not 0
module _ (n s : ℕ) (f : ℕ → Bool) (few : n ≤ 64) (fits : s < 2 ^ 64) (bits : (b : ℕ) → b < 64 → bit s b ≡ (f b && ltb b n)) where
  pub none_set : s ≡ 0 → some? n f ≡ false
  none_set e =
      eq-false_of_not-eq-true (λ h.
      let y = some?_elim n f (to_true _ h) in
      let z : bit s y.0 ≡ true = bits y.0 (omega (arith, y.1)) ∙ (rw (is_true (f y.0) y.2, lt-ltb y.0 n y.1)) in
      not_both z (rw e (bit_zero y.0)))

  pub one_set : (s ≡ 0 → ⊥) → some? n f ≡ true
  one_set ne = eq-true_of_not-eq-false (λ h. ne (lt-one (short 0 64 s (omega arith) fits (λ b l u. clear h b u))))
    where
      clear : some? n f ≡ false → (b : ℕ) → b < 64 → bit s b ≡ false
      clear h b lb =
          eq-false_of_not-eq-true (λ e.
          let q = both_true (f b) (ltb b n) (sym (bits b lb) ∙ e) in
          not_both q.0 (some?_none n f h b (ltb-true b n q.1)))

-- ---- how many are set
abbrev pub one : Bool → ℕ
one true = 1
one false = 0

ones_digit : (x : ℕ) → x < 2 → ones x ≡ one (eqb x 1)
unfolding ones
ones_digit zero h = refl
ones_digit (suc zero) h = refl
ones_digit (suc (suc x)) h = absurd (omega arith)

-- one bit more
pub ones_more : (w n : ℕ) → ones (w % 2 ^ suc n) ≡ one (bit w n) + ones (w % 2 ^ n)
ones_more w n =
    ap (λ (m : ℕ). ones (w % 2 ^ m)) e
    ∙ ap ones (mod-pow-add w 1 n)
    ∙ ones_cat n (w / 2 ^ n % 2 ^ 1) (w % 2 ^ n) (mod-lt w (pow_pos n))
    ∙ ap (λ (m : ℕ). m + ones (w % 2 ^ n)) (ones_digit (w / 2 ^ n % 2) (mod-lt (w / 2 ^ n) (zero-lt-suc 1)))
  where
    e : suc n ≡ 1 + n
    e = omega arith

pub ones_none : (w : ℕ) → ones (w % 2 ^ 0) ≡ 0
unfolding ones
ones_none w = ap ones (lt-one (mod-lt w (pow_pos 0)))

-- ---- a word has no ones exactly where it is 0
pub no_ones : (k w : ℕ) → w < 2 ^ k → ones w ≡ 0 → w ≡ 0
no_ones zero w h e = omega arith
no_ones (suc k) w h e =
    let z = ones_step w in
    let y = no_ones k (w / 2) (omega arith) (omega arith) in
    omega (arith, y, z)

pub zero_ones : ones 0 ≡ 0
unfolding ones
zero_ones = refl

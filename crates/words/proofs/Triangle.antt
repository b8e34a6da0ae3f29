-- The triangular numbers by which the index is laid out.
use mathlib.Core.Path.{◌≡◌, refl, ap, ◌∙◌}
use Prim.Native.Nat.{ℕ, zero, suc, ◌+◌, ◌*◌, ◌≤◌, ◌<◌}
use native.Mathlib.Nat.{suc-mul, mul-suc, le_refl, eq-or-lt_of_le, le_of_suc-le-suc}
use mathlib.Core.Logic.{◌⊎◌, inl, inr}
use native.Mathlib.Decide.{dec_lt}
use native.Mathlib.Numerals.{add-one}
use native.Mathlib.Omega.{arith}
use Rattle.words.specs.Places.{tri}

pub tri_next : (i : ℕ) → tri (i + 1) ≡ tri i + i
unfolding tri
tri_next i = rw add-one

-- twice the number is i times i, less i
pub tri_twice : (i : ℕ) → 2 * tri i + i ≡ i * i
unfolding tri
tri_twice zero = refl
tri_twice (suc i) =
    let ih = tri_twice i in
    let e : suc i * suc i ≡ i * i + i + suc i = suc-mul i (suc i) ∙ ap (λ (n : ℕ). n + suc i) (mul-suc i i) in
    omega arith

pub tri_mono : (i j : ℕ) → i ≤ j → tri i ≤ tri j
unfolding tri
tri_mono i zero h = let e : i ≡ 0 = omega arith in rw e (le_refl _)
tri_mono i (suc j) h = by (eq-or-lt_of_le h) (tri_mono i j)
  where
    by : (i ≡ suc j) ⊎ (i < suc j) → (i ≤ j → tri i ≤ tri j) → tri i ≤ tri (suc j)
    by (inl e) rec = rw e (le_refl _)
    by (inr l) rec = let r = rec (le_of_suc-le-suc l) in omega arith

-- the rows of different boats do not overlap
pub tri_apart : (h i j : ℕ) → h < i → i < j → tri i + h < tri j
unfolding tri
tri_apart h i j lh lj = let m : tri (suc i) ≤ tri j = tri_mono (suc i) j lj in omega arith

-- of 64 boats the index takes 2,016 words
pub tri_small : (i : ℕ) → i < 64 → tri i ≤ 1953
unfolding tri
tri_small i h = let m : tri i ≤ tri 63 = tri_mono i 63 (omega arith) in m

-- no two pairs of boats share a word of the index
pub tri_once : (h i l j : ℕ) → h < i → l < j → tri i + h ≡ tri j + l → (h ≡ l) × (i ≡ j)
tri_once h i l j lh ll e = by (dec_lt i j) (dec_lt j i)
  where
    by : Dec (i < j) → Dec (j < i) → (h ≡ l) × (i ≡ j)
    by (yes y) d = absurd (omega (arith, tri_apart h i j lh y))
    by (no n) (yes y) = absurd (omega (arith, tri_apart l j i ll y))
    by (no n) (no m) = let q : i ≡ j = omega arith in (omega (arith, ap tri q), q)

-- The contents that the loops put, one part more.
use mathlib.Core.Path.{◌≡◌, refl, sym, ap, ◌∙◌}
use mathlib.Core.List.{List, ◌∷◌, ◌++◌}
use Prim.Native.Nat.{ℕ, zero, suc, ◌+◌, ◌/◌, ◌%◌, ◌^◌}
use native.Mathlib.Nat.{pow-suc, div-div-eq-div-mul}
use native.Mathlib.Numerals.{add-one}
use Rattle.std.specs.Int.{bytes_low_first}
use Rattle.files.specs.Bytes.{bytes_of, joined}

-- ---- the bytes of a word, as the code makes them
next_byte : (k i w : ℕ) → bytes_low_first (suc i) k w ≡ bytes_of k (w / 256 ^ suc i)
unfolding bytes_of
next_byte zero i w = refl
next_byte (suc k) i w =
    ap (λ bytes. w / 256 ^ suc i % 256 ∷ bytes)
    (next_byte k (suc i) w ∙ ap (bytes_of k) (sym (div-div-eq-div-mul w (256 ^ suc i) 256 ∙ ap (λ n. w / n) (sym (pow-suc 256 (suc i))))))

pub low_first : (k w : ℕ) → bytes_low_first 0 (suc k) w ≡ bytes_of (suc k) w
unfolding bytes_of
low_first k w = ap (λ bytes. w % 256 ∷ bytes) (next_byte k 0 w)

-- ---- joined parts
pub joined_more : (k : ℕ) (f : ℕ → List ℕ) → joined k f ++ f k ≡ joined (k + 1) f
unfolding joined
joined_more k f = ap (λ n. joined n f) (sym (add-one k))

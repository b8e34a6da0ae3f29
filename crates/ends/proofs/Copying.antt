-- A loop that copies the front of a list over another's, one store a turn.
use mathlib.Core.Path.{◌≡◌, refl, ap}
use mathlib.Core.List.{List, [], ◌∷◌, ◌++◌}
use Prim.Native.Nat.{ℕ, zero, suc, ◌+◌, ◌<◌}
use native.Mathlib.Nat.{not-suc-le-zero, le_of_suc-le-suc}
use native.Mathlib.Numerals.{add-one}
use lib.ListN.{length, get_or, set, take, drop}

next_copied : (k : ℕ) (from to : List ℕ) → k < length from → k < length to →
    set (take k from ++ drop k to) k (get_or from k 0) ≡ take (suc k) from ++ drop (suc k) to
next_copied k [] to l m = absurd (not-suc-le-zero l)
next_copied k (x ∷ from) [] l m = absurd (not-suc-le-zero m)
next_copied zero (x ∷ from) (y ∷ to) l m = refl
next_copied (suc k) (x ∷ from) (y ∷ to) l m = ap (λ (r : List ℕ). x ∷ r) (next_copied k from to (le_of_suc-le-suc l) (le_of_suc-le-suc m))

pub copied_more : (k : ℕ) (from to : List ℕ) → k < length from → k < length to →
    set (take k from ++ drop k to) k (get_or from k 0) ≡ take (k + 1) from ++ drop (k + 1) to
copied_more k from to l m = rw add-one (next_copied k from to l m)

-- What is in the words once the first are zeroed.
use mathlib.Core.Path.{◌≡◌, sym, ap, ◌∙◌}
use mathlib.Core.Logic.{⊎_elim}
use mathlib.Core.List.{List, ◌++◌}
use Prim.Native.Nat.{ℕ, ◌+◌, ◌-◌, ◌≤◌, ◌<◌}
use native.Mathlib.Omega.{arith}
use lib.ListN.{length, drop, replicate, length-replicate, get_or-replicate, get_or-append, length-append, length-drop}
use lib.Seq.{drop-append_seam, get_or-drop}
use Rattle.words.specs.Layout.{word, zeroed, ChangedOnly}

pub zeroed_at : (n k : ℕ) (w : List ℕ) → k < n → word (zeroed n w) k ≡ 0
unfolding zeroed
zeroed_at n k w l = get_or-append (replicate n 0) (drop n w) 0 k (omega (arith, length-replicate {A = ℕ} n 0)) ∙ get_or-replicate n k 0 0 l

pub zeroed_long : (n : ℕ) (w : List ℕ) → n ≤ length w → length (zeroed n w) ≡ length w
unfolding zeroed
zeroed_long n w l = length-append (replicate n 0) (drop n w) ∙ omega (arith, length-replicate {A = ℕ} n 0, length-drop n w)

pub zeroed_later : (n : ℕ) (w : List ℕ) → drop n (zeroed n w) ≡ drop n w
unfolding zeroed
zeroed_later n w = ap (λ (k : ℕ). drop k (replicate n 0 ++ drop n w)) (sym (length-replicate n 0)) ∙ drop-append_seam (replicate n 0) (drop n w)

-- only the later words matter
pub zeroed_same : (n : ℕ) (v w : List ℕ) → drop n v ≡ drop n w → zeroed n v ≡ zeroed n w
unfolding zeroed
zeroed_same n v w e = ap (λ (l : List ℕ). replicate n 0 ++ l) e

-- and no others have changed
pub zeroed_only : (n : ℕ) (w : List ℕ) → n ≤ length w → ChangedOnly 0 n w (zeroed n w)
zeroed_only n w l = record { long = zeroed_long n w l; others = λ k h. ⊎_elim (λ none. absurd (omega arith)) (λ hi. later k hi) h }
  where
    later : (k : ℕ) → n ≤ k → word (zeroed n w) k ≡ word w k
    later k hi =
        let z : n + (k - n) ≡ k = omega arith in
        rw z at (sym (get_or-drop n (zeroed n w) (k - n) 0) ∙ ap (λ (v : List ℕ). word v (k - n)) (zeroed_later n w) ∙ get_or-drop n w (k - n) 0)

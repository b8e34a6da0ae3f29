-- What a call leaves as it was: the words outside a range.
use mathlib.Core.Path.{◌≡◌, refl, sym, ap, ◌∙◌}
use mathlib.Core.Logic.{inl, inr, ⊎_elim}
use mathlib.Core.List.{List}
use Prim.Native.Nat.{ℕ, ◌+◌, ◌-◌, ◌≤◌, ◌<◌}
use native.Mathlib.Omega.{arith}
use lib.ListN.{length, take, drop, set, length-set, length-drop}
use lib.Seq.{get_or-set_other, get_or-take, get_or-drop, length-take-le, ext_get_or}
use Rattle.words.specs.Layout.{word, ChangedOnly}

pub only_refl : (a b : ℕ) (w : List ℕ) → ChangedOnly a b w w
only_refl a b w = record { long = refl; others = λ k h. refl }

pub only_trans : {a b : ℕ} {u v w : List ℕ} → ChangedOnly a b u v → ChangedOnly a b v w → ChangedOnly a b u w
only_trans p q = record { long = q.long ∙ p.long; others = λ k h. q.others k h ∙ p.others k h }

-- a store inside the range
pub only_set : {a b : ℕ} (w : List ℕ) (k v : ℕ) → a ≤ k → k < b → ChangedOnly a b w (set w k v)
only_set w k v lo hi =
    record {
      long = length-set w k v;
      others = λ j h. get_or-set_other w k j v 0 (⊎_elim (λ l. omega arith) (λ l. omega arith) h);
    }

pub only_widen : {a b c d : ℕ} {v w : List ℕ} → c ≤ a → b ≤ d → ChangedOnly a b v w → ChangedOnly c d v w
only_widen lo hi o =
    record {
      long = o.long;
      others = λ k h. o.others k (⊎_elim (λ l. inl (omega arith)) (λ l. inr (omega arith)) h);
    }

-- the words before the range
pub only_below : {a b : ℕ} {v w : List ℕ} → ChangedOnly a b v w → (k : ℕ) → k < a → word w k ≡ word v k
only_below o k l = o.others k (inl l)

pub only_take : {a b : ℕ} {v w : List ℕ} → ChangedOnly a b v w → (i : ℕ) → i ≤ a → i ≤ length v → take i w ≡ take i v
only_take {v = v} {w = w} o i lo li =
    let p = length-take-le i v li in
    let q = length-take-le i w (omega (arith, o.long)) in
    ext_get_or 0 (take i w) (take i v) (q ∙ sym p)
    (λ k lk. get_or-take i w k 0 (omega arith) ∙ only_below o k (omega arith) ∙ sym (get_or-take i v k 0 (omega arith)))

-- the words from the end of the range on
pub only_drop : {a b : ℕ} {v w : List ℕ} (n : ℕ) → b ≤ n → ChangedOnly a b v w → drop n w ≡ drop n v
only_drop {v = v} {w = w} n le o =
    ext_get_or 0 (drop n w) (drop n v) (length-drop n w ∙ ap (λ (m : ℕ). m - n) o.long ∙ sym (length-drop n v))
    (λ i l. get_or-drop n w i 0 ∙ o.others (n + i) (inr (omega arith)) ∙ sym (get_or-drop n v i 0))

-- The b words while they are lowered, one boat after the other.
use mathlib.Core.Path.{◌≡◌, ap, ◌∙◌}
use mathlib.Core.Logic.{◌⊎◌, inl, inr}
use mathlib.Core.List.{List}
use Prim.Native.Nat.{ℕ, zero, suc, ◌+◌, ◌-◌, ◌≤◌, ◌<◌, min}
use native.Mathlib.Nat.{eq-or-lt_of_le}
use native.Mathlib.Omega.{arith}
use native.Mathlib.Decide.{dec_lt}
use lib.ListN.{length, set}
use lib.Seq.{get_or-set_same, get_or-set_other}
use Rattle.methods.specs.BM.{lowered}
use Rattle.words.specs.Places.{low_at}
use Rattle.words.specs.Layout.{word, ChangedOnly, Zero}
use Rattle.words.proofs.ChangedOnly.{only_refl, only_trans, only_set, only_widen}
use Rattle.marks.specs.Marks.{marks_of, NeverRises}
use Rattle.marks.proofs.Stores.{lowered_words}

-- those of the boats above i and below j are lowered to h
pub record Lowering (i h j : ℕ) (w w' : List ℕ) : Type 0 where
  pub only : ChangedOnly (low_at (i + 1)) (low_at j) w w'
  pub done : (k : ℕ) → i < k → k < j → word w' (low_at k) ≡ min (word w (low_at k)) h

pub lowering_none : (i h : ℕ) (w : List ℕ) → Lowering i h (i + 1) w w
lowering_none i h w = record { only = only_refl (low_at (i + 1)) (low_at (i + 1)) w; done = λ k l m. absurd (omega arith) }

module _ (i h j : ℕ) (w w' : List ℕ) (lj : i < j) (x : Lowering i h j w w') where
  same_word : word w' (low_at j) ≡ word w (low_at j)
  same_word = x.only.others (low_at j) (inr (omega arith))

  -- one boat more
  more : (u : List ℕ) → ChangedOnly (low_at j) (low_at (j + 1)) w' u → word u (low_at j) ≡ min (word w (low_at j)) h → Lowering i h (j + 1) w u
  more u o e =
      record {
        only = only_trans (only_widen (omega arith) (omega arith) x.only) (only_widen (omega arith) (omega arith) o);
        done = λ k l m. by k l (eq-or-lt_of_le (omega arith));
      }
    where
      by : (k : ℕ) → i < k → (k ≡ j) ⊎ (k < j) → word u (low_at k) ≡ min (word w (low_at k)) h
      by k l (inl f) = rw f e
      by k l (inr m) = o.others (low_at k) (inl (omega arith)) ∙ x.done k l m

  pub lowering_set : h < word w' (low_at j) → low_at j < length w' → Lowering i h (j + 1) w (set w' (low_at j) h)
  lowering_set l m =
      more (set w' (low_at j) h) (only_set w' (low_at j) h (omega arith) (omega arith)) (get_or-set_same w' (low_at j) h 0 m ∙ omega (arith, same_word))

-- where b of one boat after i is not above h, neither is that of any boat after it
falling_on : (h : ℕ) (w : List ℕ) (i j r : ℕ) → NeverRises w i → i < j → j + r < 64 → word w (low_at j) ≤ h → word w (low_at (j + r)) ≤ h
falling_on h w i j zero f l s e = let z : low_at (j + 0) ≡ low_at j = omega arith in rw z e
falling_on h w i j (suc r) f l s e =
    let z : low_at (j + suc r) ≡ low_at (j + r + 1) = omega arith in
    rw z (omega (arith, f (j + r) (omega arith) (omega arith), falling_on h w i j r f l (omega arith) e))

-- the first that is not above h ends it: so are all after it
pub lowering_ends : (i h j n : ℕ) (w w' : List ℕ) → i < j → j ≤ n → n ≤ 64 → NeverRises w i → Lowering i h j (set w (low_at i) h) w' → word w' (low_at j) ≤ h →
    Lowering i h n (set w (low_at i) h) w'
lowering_ends i h j n w w' lj ln few f x e =
    record {
      only = only_widen (omega arith) (omega arith) x.only;
      done = λ k l m. by k l m (dec_lt k j);
    }
  where
    -- a boat not yet lowered has its word still
    still : (k : ℕ) → j ≤ k → word w' (low_at k) ≡ word w (low_at k)
    still k l = x.only.others (low_at k) (inr (omega arith)) ∙ get_or-set_other w (low_at i) (low_at k) h 0 (λ z. omega arith)

    by : (k : ℕ) → i < k → k < n → Dec (k < j) → word w' (low_at k) ≡ min (word (set w (low_at i) h) (low_at k)) h
    by k l m (yes y) = x.done k l y
    by k l m (no y) =
        let z : j + (k - j) ≡ k = omega arith in
        let low : word w (low_at (j + (k - j))) ≤ h = falling_on h w i j (k - j) f lj (omega arith) (rw (← (still j (omega arith))) e) in
        let to_come : word w (low_at k) ≤ h = rw z at low in
        still k (omega arith) ∙ rw (get_or-set_other w (low_at i) (low_at k) h 0 (λ z. omega arith)) (omega (arith, to_come))

-- all later boats are lowered, and boat i was first
module _ (n i h : ℕ) (w w' : List ℕ) (li : i < n) (x : Lowering i h n (set w (low_at i) h) w') where
  pub lowering_only : ChangedOnly (low_at i) (low_at n) w w'
  lowering_only =
      only_trans (only_set w (low_at i) h (omega arith) (omega arith)) (only_widen (omega arith) (omega arith) x.only)

  pub lowering_all : n ≤ 64 → low_at i < length w → Zero (low_at n) 128 w → marks_of w' ≡ lowered (marks_of w) i h
  lowering_all ln long none =
      lowered_words w w' n i h li ln none lowering_only (x.only.others (low_at i) (inl (omega arith)) ∙ get_or-set_same w (low_at i) h 0 long)
      (λ k l m. x.done k l m ∙ ap (λ (v : ℕ). min v h) (get_or-set_other w (low_at i) (low_at k) h 0 (λ e. omega arith)))

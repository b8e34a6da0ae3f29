-- The marks that the working words hold, after a store.
use mathlib.Core.Path.{◌≡◌, refl, ap, ◌∙◌}
use mathlib.Core.Logic.{inl, inr}
use mathlib.Core.Bool.{Bool, true, false, cond, ◌&&◌}
use mathlib.Core.List.{List}
use Prim.Native.Nat.{ℕ, ◌≤◌, ◌<◌, min}
use native.Mathlib.Omega.{arith}
use lib.Dec.{ltb, eqb}
use lib.ListN.{length, set}
use lib.Seq.{get_or-set_same, get_or-set_other}
use borrow.Author.Tests.{ltb-true, ltb-false, eqb-true, eqb-false, lt-ltb}
use Rattle.methods.specs.BM.{Marks, marked, lowered}
use Rattle.words.specs.Places.{low_at, mark_at, used}
use Rattle.words.specs.Layout.{word, ChangedOnly, Zero}
use Rattle.marks.specs.Marks.{marks_of}

same_marks : (σ τ : Marks) → ((k x : ℕ) → σ.m k x ≡ τ.m k x) → ((k : ℕ) → σ.b k ≡ τ.b k) → σ ≡ τ
same_marks σ τ f g = λ i. record { m = λ k x. f k x i; b = λ k. g k i }

-- ---- the words of boats and slots below 64
pub mark_word : (w : List ℕ) (i a : ℕ) → i < 64 → a < 64 → (marks_of w).m i a ≡ word w (mark_at i a)
mark_word w i a li la = rw (lt-ltb i 64 li, lt-ltb a 64 la)

pub low_word : (w : List ℕ) (i : ℕ) → i < 64 → (marks_of w).b i ≡ word w (low_at i)
low_word w i li = rw (lt-ltb i 64 li)

-- ---- a mark is stored
module _ (w : List ℕ) (i a v : ℕ) (li : i < 64) (la : a < 64) (long : used ≤ length w) where
  abbrev w' : List ℕ
  w' = set w (mark_at i a) v

  pub marked_words : marks_of w' ≡ marked (marks_of w) i a v
  marked_words = same_marks _ _ mark low
    where
      mark : (k x : ℕ) → (marks_of w').m k x ≡ (marked (marks_of w) i a v).m k x
      mark k x = by (eqb k i) (eqb x a) refl refl (ltb k 64) (ltb x 64) refl refl
        where
          other : (k ≡ i → x ≡ a → ⊥) → k < 64 → x < 64 → word w' (mark_at k x) ≡ word w (mark_at k x)
          other n lk lx = get_or-set_other w (mark_at i a) (mark_at k x) v 0 (λ e. n (omega arith) (omega arith))

          by : (p q : Bool) → eqb k i ≡ p → eqb x a ≡ q → (r s : Bool) → ltb k 64 ≡ r → ltb x 64 ≡ s →
              cond (r && s) (word w' (mark_at k x)) 0 ≡ cond (p && q) v (cond (r && s) (word w (mark_at k x)) 0)
          by true true ep eq true true er es =
              let z : mark_at k x ≡ mark_at i a = omega (arith, eqb-true k i ep, eqb-true x a eq) in
              ap (word w') z ∙ get_or-set_same w (mark_at i a) v 0 (omega arith)
          by true true ep eq false s er es = absurd (omega (arith, eqb-true k i ep, ltb-false k 64 er))
          by true true ep eq true false er es = absurd (omega (arith, eqb-true x a eq, ltb-false x 64 es))
          by true false ep eq true true er es = other (λ e f. eqb-false x a eq f) (ltb-true k 64 er) (ltb-true x 64 es)
          by true false ep eq true false er es = refl
          by true false ep eq false s er es = refl
          by false q ep eq true true er es = other (λ e f. eqb-false k i ep e) (ltb-true k 64 er) (ltb-true x 64 es)
          by false q ep eq true false er es = refl
          by false q ep eq false s er es = refl

      low : (k : ℕ) → (marks_of w').b k ≡ (marks_of w).b k
      low k = by (ltb k 64) refl
        where
          by : (r : Bool) → ltb k 64 ≡ r → cond r (word w' (low_at k)) 0 ≡ cond r (word w (low_at k)) 0
          by true er = let l = ltb-true k 64 er in get_or-set_other w (mark_at i a) (low_at k) v 0 (λ e. omega arith)
          by false er = refl

-- ---- the b words of boat i and the later ones are lowered; those past the last boat are 0
pub lowered_words : (w w' : List ℕ) (n i h : ℕ) → i < n → n ≤ 64 → Zero (low_at n) 128 w → ChangedOnly (low_at i) (low_at n) w w' → word w' (low_at i) ≡ h →
    ((j : ℕ) → i < j → j < n → word w' (low_at j) ≡ min (word w (low_at j)) h) → marks_of w' ≡ lowered (marks_of w) i h
lowered_words w w' n i h li ln zero only to_come later = same_marks _ _ mark low
  where
    mark : (k x : ℕ) → (marks_of w').m k x ≡ (marks_of w).m k x
    mark k x = ap (λ (v : ℕ). cond (ltb k 64 && ltb x 64) v 0) (only.others (mark_at k x) (inr (omega arith)))

    low : (k : ℕ) → (marks_of w').b k ≡ (lowered (marks_of w) i h).b k
    low k = by (ltb k 64) refl (eqb k i) refl (ltb i k) refl (ltb k n) refl
      where
        by : (r : Bool) → ltb k 64 ≡ r → (p : Bool) → eqb k i ≡ p → (q : Bool) → ltb i k ≡ q → (s : Bool) → ltb k n ≡ s →
            cond r (word w' (low_at k)) 0 ≡ cond p h (cond q (min (cond r (word w (low_at k)) 0) h) (cond r (word w (low_at k)) 0))
        by true er true ep q eq s es = ap (λ (j : ℕ). word w' (low_at j)) (eqb-true k i ep) ∙ to_come
        by true er false ep true eq true es = later k (ltb-true i k eq) (ltb-true k n es)
        by true er false ep true eq false es =
            let u = only.others (low_at k) (inr (omega (arith, ltb-false k n es))) in
            let z = zero (low_at k) (omega (arith, ltb-false k n es)) (omega (arith, ltb-true k 64 er)) in
            omega arith
        by true er false ep false eq s es = let n = eqb-false k i ep in only.others (low_at k) (inl (omega (arith, ltb-false i k eq)))
        by false er true ep q eq s es = absurd (omega (arith, eqb-true k i ep, ltb-false k 64 er))
        by false er false ep true eq s es = omega arith
        by false er false ep false eq s es = refl

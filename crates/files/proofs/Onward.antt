-- Reading goes on record by record, however many may come.
use mathlib.Core.Path.{◌≡◌, refl, sym, ap, ◌∙◌}
use mathlib.Core.Bool.{Bool, true, false}
use mathlib.Core.List.{List, [], ◌∷◌, ◌++◌}
use Prim.Native.Nat.{ℕ, zero, suc, ◌+◌, ◌-◌, ◌≤◌, ◌<◌}
use native.Mathlib.Omega.{arith}
use borrow.Author.Tests.{ltb-true, ltb-false, lt-ltb, le-ltb}
use lib.Dec.{ltb}
use lib.ListN.{length, take, drop, length-append, length-drop}
use lib.Seq.{take_at, drop_at}
use Rattle.problem.specs.Tables.{Tables}
use Rattle.files.specs.Reading.{Reading, read, Stage, Rest, next, refuse, over, end, marked, cut, read_rest, read_records, read_from}

abbrev pub Onward : Type 0
Onward = (at : ℕ) → Stage → Tables → List ℕ → Reading

-- ---- so many bytes: they are there, or the file ends
module _ (onward : Onward) (at k : ℕ) (rest : List ℕ → Rest) where
  pub short : (bytes : List ℕ) → length bytes < k → read_rest onward at (next k rest) bytes ≡ cut at bytes
  unfolding read_rest
  short bytes l = rw (lt-ltb (length bytes) k l, read_rest)

  pub enough : (bytes : List ℕ) → k ≤ length bytes → read_rest onward at (next k rest) bytes ≡ read_rest onward (at + k) (rest (take k bytes)) (drop k bytes)
  unfolding read_rest
  enough bytes l = rw (le-ltb (length bytes) k l, read_rest)

  pub given : (head tail : List ℕ) → length head ≡ k → read_rest onward at (next k rest) (head ++ tail) ≡ read_rest onward (at + k) (rest head) tail
  given head tail e =
      enough (head ++ tail) (omega (arith, length-append head tail))
      ∙ ap (λ l. read_rest onward (at + k) (rest l) (drop k (head ++ tail))) (take_at head tail k e)
      ∙ ap (read_rest onward (at + k) (rest head)) (drop_at head tail k e)

-- ---- the same of any rest that wants so many bytes
abbrev pub Wants : ℕ → Rest → Type 0
Wants n (next k rest) = n ≡ k
Wants n (refuse which width) = ⊥
Wants n (over stage t) = ⊥
Wants n (end t) = ⊥

abbrev pub after_bytes : Rest → List ℕ → Rest
after_bytes (next k rest) bytes = rest bytes
after_bytes (refuse which width) bytes = refuse which width
after_bytes (over stage t) bytes = over stage t
after_bytes (end t) bytes = end t

pub takes : (onward : Onward) (at : ℕ) (rest : Rest) (head tail : List ℕ) → Wants (length head) rest
    → read_rest onward at rest (head ++ tail) ≡ read_rest onward (at + length head) (after_bytes rest head) tail
takes onward at (next k rest) head tail e =
    given onward at k rest head tail e ∙ ap (λ p. read_rest onward (at + p) (rest head) tail) (sym e)
takes onward at (refuse which width) head tail e = absurd e
takes onward at (over stage t) head tail e = absurd e
takes onward at (end t) head tail e = absurd e

pub goes_on_lem : (onward : Onward) (at : ℕ) (stage : Stage) (t : Tables) (bytes : List ℕ) → read_rest onward at (over stage t) bytes ≡ onward at stage t bytes
unfolding read_rest
goes_on_lem onward at stage t bytes = refl

pub ends : (onward : Onward) (at : ℕ) (t : Tables) → read_rest onward at (end t) [] ≡ read t
unfolding read_rest
ends onward at t = refl

-- ---- what comes after a record is all that `onward` is asked
module _ (f g : Onward) where
  rest_same : (at : ℕ) (r : Rest) (bytes : List ℕ)
      → ((at : ℕ) (s : Stage) (t : Tables) (later : List ℕ) → length later ≤ length bytes → f at s t later ≡ g at s t later)
      → read_rest f at r bytes ≡ read_rest g at r bytes
  unfolding read_rest
  rest_same at (next k rest) bytes e =
      by (ltb (length bytes) k) refl (rest_same (at + k) (rest (take k bytes)) (drop k bytes) (λ a s t later l. e a s t later (omega (arith, length-drop k bytes))))
    where
      by : (b : Bool) → ltb (length bytes) k ≡ b
          → read_rest f (at + k) (rest (take k bytes)) (drop k bytes) ≡ read_rest g (at + k) (rest (take k bytes)) (drop k bytes)
          → read_rest f at (next k rest) bytes ≡ read_rest g at (next k rest) bytes
      by true q rec = short f at k rest bytes (ltb-true _ _ q) ∙ sym (short g at k rest bytes (ltb-true _ _ q))
      by false q rec = enough f at k rest bytes (ltb-false _ _ q) ∙ rec ∙ sym (enough g at k rest bytes (ltb-false _ _ q))
  rest_same at (refuse number width) bytes e = refl
  rest_same at (over stage t) bytes e = e at stage t bytes (omega arith)
  rest_same at (end t) [] e = refl
  rest_same at (end t) (b ∷ bytes) e = refl

  -- a mark is two bytes
  mark_same : (at : ℕ) (s : Stage) (t : Tables) (bytes : List ℕ)
      → ((at : ℕ) (s : Stage) (t : Tables) (later : List ℕ) → length later < length bytes → f at s t later ≡ g at s t later)
      → read_rest f at (marked s t) bytes ≡ read_rest g at (marked s t) bytes
  mark_same at s t bytes e = by (ltb (length bytes) 2) refl
    where
      by : (b : Bool) → ltb (length bytes) 2 ≡ b → read_rest f at (marked s t) bytes ≡ read_rest g at (marked s t) bytes
      by true q = short f at 2 _ bytes (ltb-true _ _ q) ∙ sym (short g at 2 _ bytes (ltb-true _ _ q))
      by false q =
          let l = ltb-false _ _ q in
          enough f at 2 _ bytes l
          ∙ rest_same (at + 2) _ (drop 2 bytes) (λ a s' t' later m. e a s' t' later (omega (arith, length-drop 2 bytes)))
          ∙ sym (enough g at 2 _ bytes l)

-- ---- any number of records that is enough
many_same : (m n at : ℕ) (s : Stage) (t : Tables) (bytes : List ℕ) → length bytes ≤ m → length bytes ≤ n → read_records m at s t bytes ≡ read_records n at s t bytes
unfolding read_records
many_same zero zero at s t bytes p q = refl
many_same zero (suc n) at s t [] p q = sym (short (read_records n) at 2 _ [] (omega arith))
many_same zero (suc n) at s t (b ∷ bytes) p q = absurd (omega arith)
many_same (suc m) zero at s t [] p q = short (read_records m) at 2 _ [] (omega arith)
many_same (suc m) zero at s t (b ∷ bytes) p q = absurd (omega arith)
many_same (suc m) (suc n) at s t bytes p q =
    mark_same (read_records m) (read_records n) at s t bytes (λ a s' t' later l. many_same m n a s' t' later (omega arith) (omega arith))

-- from any place on: a mark, its record, and from there on
pub from_is : (at : ℕ) (s : Stage) (t : Tables) (bytes : List ℕ) → read_from at s t bytes ≡ read_rest read_from at (marked s t) bytes
unfolding read_from read_records
from_is at s t bytes =
    many_same (length bytes) (suc (length bytes)) at s t bytes (omega arith) (omega arith)
    ∙ mark_same (read_records (length bytes)) read_from at s t bytes (λ a s' t' later l. many_same (length bytes) (length later) a s' t' later (omega arith) (omega arith))

-- One record: what reading it comes to, and what bytes are read as one.
use mathlib.Core.Path.{◌≡◌, refl, sym, ap, ap₂, ◌∙◌}
use mathlib.Core.Logic.{◌⊎◌, inl, inr}
use mathlib.Core.Bool.{Bool, true, false, not}
use mathlib.Core.List.{List, [], ◌∷◌, ◌++◌, append-nil}
use Prim.Native.Nat.{ℕ, ◌+◌, ◌*◌, ◌<◌}
use native.Mathlib.Omega.{arith}
use borrow.Author.Tests.{ltb-true, ltb-false, leb-false, lt-leb, not-false, eqb-true, eq-eqb}
use lib.Dec.{ltb, leb, eqb}
use lib.ListN.{length, get_or, take, drop, take-append-drop}
use lib.Seq.{length-take-le}
use Rattle.problem.specs.Tables.{Tables, boats, size, listed}
use Rattle.problem.proofs.Places.{both_true, true_both}
use Rattle.problem.proofs.Lowest.{not_both}
use Rattle.files.specs.Bytes.{number, words_of}
use Rattle.files.specs.File.{SZ, PR, ED}
use Rattle.files.specs.Reading.{read, sizes_due, pairs_due, Rest, next, refuse, over, end, refuse_if, sizes_rest, words_rest, pair_rest, end_rest, Kind, due, same, after_mark, marked, read_rest, read_from, sized}
use Rattle.files.proofs.Onward.{short, enough, after_bytes, takes, goes_on_lem, ends, from_is}

pub one_byte : (b : ℕ) → number (b ∷ []) ≡ b
unfolding number
one_byte b = omega arith

-- ---- the tables after a record
abbrev pub with_pair : Tables → (l h : ℕ) → (words : List ℕ) → Tables
with_pair t l h words =
    record { sizes = t.sizes; pairs = t.pairs ++ (l ∷ h ∷ []); rows = t.rows ++ words_of (size t.sizes l) words }

-- ---- reading a record
pub sizes_read : (at : ℕ) (t : Tables) (n : ℕ) (sizes rest : List ℕ) → length sizes ≡ n
    → read_from at sizes_due t (SZ ++ (n ∷ (sizes ++ rest))) ≡ read_from (at + 2 + 1 + n) pairs_due (sized sizes) rest
unfolding after_mark same sizes_rest
sizes_read at t n sizes rest e =
    from_is at sizes_due t _
    ∙ takes read_from at (marked sizes_due t) SZ (n ∷ (sizes ++ rest)) refl
    ∙ takes read_from (at + 2) (sizes_rest t) (n ∷ []) (sizes ++ rest) refl
    ∙ takes read_from (at + 2 + 1) (after_bytes (sizes_rest t) (n ∷ [])) sizes rest (e ∙ sym (one_byte n))
    ∙ goes_on_lem read_from (at + 2 + 1 + length sizes) pairs_due (sized sizes) rest
    ∙ ap (λ k. read_from (at + 2 + 1 + k) pairs_due (sized sizes) rest) e

-- a lower boat that is there
lower_there : (t : Tables) (l : ℕ) → l < boats t → leb (boats t) (number (l ∷ [])) ≡ false
lower_there t l small = rw (one_byte l) (lt-leb (boats t) l small)

pub pair_read : (at : ℕ) (t : Tables) (l h : ℕ) (words rest : List ℕ) → l < boats t → length words ≡ 8 * size t.sizes l
    → read_from at pairs_due t (PR ++ (l ∷ h ∷ (words ++ rest))) ≡ read_from (at + 2 + 1 + 1 + 8 * size t.sizes l) pairs_due (with_pair t l h words) rest
unfolding after_mark same pair_rest words_rest
pair_read at t l h words rest small e =
    from_is at pairs_due t _
    ∙ takes read_from at (marked pairs_due t) PR (l ∷ h ∷ (words ++ rest)) refl
    ∙ takes read_from (at + 2) (pair_rest t) (l ∷ []) (h ∷ (words ++ rest)) refl
    ∙ ap (λ b. read_rest read_from (at + 2 + 1) (refuse_if b 23 1 (words_rest t (l ∷ []) (size t.sizes (number (l ∷ []))))) (h ∷ (words ++ rest))) (lower_there t l small)
    ∙ ap (λ b. read_rest read_from (at + 2 + 1) (words_rest t (l ∷ []) (size t.sizes b)) (h ∷ (words ++ rest))) (one_byte l)
    ∙ takes read_from (at + 2 + 1) (words_rest t (l ∷ []) (size t.sizes l)) (h ∷ []) (words ++ rest) refl
    ∙ takes read_from (at + 2 + 1 + 1) (after_bytes (words_rest t (l ∷ []) (size t.sizes l)) (h ∷ [])) words rest e
    ∙ goes_on_lem read_from (at + 2 + 1 + 1 + length words) pairs_due (with_pair t l h words) rest
    ∙ ap (λ k. read_from (at + 2 + 1 + 1 + k) pairs_due (with_pair t l h words) rest) e

pub end_read : (at : ℕ) (t : Tables) (count : List ℕ) → length count ≡ 2 → number count ≡ listed t.pairs → read_from at pairs_due t (ED ++ count) ≡ read t
unfolding after_mark same end_rest
end_read at t count e right =
    from_is at pairs_due t _
    ∙ takes read_from at (marked pairs_due t) ED count refl
    ∙ ap (read_rest read_from (at + 2) (end_rest t)) (sym (append-nil count))
    ∙ takes read_from (at + 2) (end_rest t) count [] e
    ∙ ap (λ b. read_rest read_from (at + 2 + length count) (refuse_if (not b) 24 2 (end t)) []) (eq-eqb _ _ right)
    ∙ ends read_from (at + 2 + length count) t

-- ---- bytes that are read: so many of them were there
pub record Took (at k : ℕ) (rest : List ℕ → Rest) (bytes : List ℕ) (u : Tables) : Type 0 where
  pub head : List ℕ
  pub tail : List ℕ
  pub parts : bytes ≡ head ++ tail
  pub long : length head ≡ k
  pub goes_on : read_rest read_from (at + k) (rest head) tail ≡ read u

pub took : (at k : ℕ) (rest : List ℕ → Rest) (bytes : List ℕ) (u : Tables) → read_rest read_from at (next k rest) bytes ≡ read u → Took at k rest bytes u
took at k rest bytes u e = by (ltb (length bytes) k) refl
  where
    by : (b : Bool) → ltb (length bytes) k ≡ b → Took at k rest bytes u
    by true q = let z : ◌≡◌ {A = ℕ} 0 1 = cc (e, short read_from at k rest bytes (ltb-true _ _ q)) in absurd (omega arith)
    by false q =
        let l = ltb-false _ _ q in
        record {
          head = take k bytes;
          tail = drop k bytes;
          parts = sym (take-append-drop k bytes);
          long = length-take-le k bytes l;
          goes_on = sym (enough read_from at k rest bytes l) ∙ e;
        }

-- and nothing was refused
pub passed : (at : ℕ) (b : Bool) (which width : ℕ) (rest : Rest) (bytes : List ℕ) (u : Tables)
    → read_rest read_from at (refuse_if b which width rest) bytes ≡ read u → (b ≡ false) × (read_rest read_from at rest bytes ≡ read u)
unfolding read_rest
passed at true which width rest bytes u e = let z : ◌≡◌ {A = ℕ} 0 1 = cc in absurd (omega arith)
passed at false which width rest bytes u e = (refl, e)

no_more : (at : ℕ) (t : Tables) (bytes : List ℕ) (u : Tables) → read_rest read_from at (end t) bytes ≡ read u → (bytes ≡ []) × (t ≡ u)
unfolding read_rest
no_more at t [] u e = (refl, cc)
no_more at t (b ∷ bytes) u e = let z : ◌≡◌ {A = ℕ} 0 1 = cc in absurd (omega arith)

same_is : (xs ys : List ℕ) → same xs ys ≡ true → xs ≡ ys
unfolding same
same_is [] [] e = refl
same_is [] (y ∷ ys) e = absurd (not_both e refl)
same_is (x ∷ xs) [] e = absurd (not_both e refl)
same_is (x ∷ xs) (y ∷ ys) e = let q = both_true _ _ e in ap₂ ◌∷◌ (eqb-true _ _ q.0) (same_is xs ys q.1)

pub same_refl : (xs : List ℕ) → same xs xs ≡ true
unfolding same
same_refl [] = refl
same_refl (x ∷ xs) = true_both _ _ (eq-eqb x x refl) (same_refl xs)

single : (xs : List ℕ) → length xs ≡ 1 → xs ≡ get_or xs 0 0 ∷ []
single [] e = absurd (omega arith)
single (x ∷ []) e = refl
single (x ∷ y ∷ xs) e = absurd (omega arith)

-- a known mark, and the rest of its record
abbrev pub Known : (at : ℕ) (mark : List ℕ) → List Kind → Tables → List ℕ → Tables → Type 0
Known at mark [] t bytes u = ⊥
Known at mark (kind ∷ kinds) t bytes u = ((mark ≡ kind.mark) × (read_rest read_from at (kind.rest t) bytes ≡ read u)) ⊎ Known at mark kinds t bytes u

known : (at : ℕ) (mark : List ℕ) (kinds : List Kind) (t : Tables) (bytes : List ℕ) (u : Tables)
    → read_rest read_from at (after_mark mark kinds t) bytes ≡ read u → Known at mark kinds t bytes u
unfolding after_mark read_rest
known at mark [] t bytes u e = let z : ◌≡◌ {A = ℕ} 0 1 = cc in absurd (omega arith)
known at mark (kind ∷ kinds) t bytes u e = by (same mark kind.mark) refl (known at mark kinds t bytes u) e
  where
    by : (b : Bool) → same mark kind.mark ≡ b → (read_rest read_from at (after_mark mark kinds t) bytes ≡ read u → Known at mark kinds t bytes u)
        → read_rest read_from at (elim b [ true ↦ kind.rest t | false ↦ after_mark mark kinds t ]) bytes ≡ read u
        → Known at mark (kind ∷ kinds) t bytes u
    by true q rec e = inl (same_is mark kind.mark q, e)
    by false q rec e = inr (rec e)

-- ---- bytes that are read as a record, after its mark
pub record SizesTaken (t : Tables) (bytes : List ℕ) (u : Tables) : Type 0 where
  pub sizes : List ℕ
  pub rest : List ℕ
  pub parts : bytes ≡ length sizes ∷ (sizes ++ rest)
  pub place : ℕ
  pub goes_on : read_from place pairs_due (sized sizes) rest ≡ read u

pub record PairTaken (t : Tables) (bytes : List ℕ) (u : Tables) : Type 0 where
  pub l : ℕ
  pub h : ℕ
  pub words : List ℕ
  pub rest : List ℕ
  pub parts : bytes ≡ l ∷ h ∷ (words ++ rest)
  pub there : l < boats t
  pub long : length words ≡ 8 * size t.sizes l
  pub place : ℕ
  pub goes_on : read_from place pairs_due (with_pair t l h words) rest ≡ read u

pub record EndTaken (t : Tables) (bytes : List ℕ) (u : Tables) : Type 0 where
  pub long : length bytes ≡ 2
  pub right : number bytes ≡ listed t.pairs
  pub whole : t ≡ u

sizes_taken : (at : ℕ) (t : Tables) (bytes : List ℕ) (u : Tables) → read_rest read_from at (sizes_rest t) bytes ≡ read u → SizesTaken t bytes u
unfolding sizes_rest
sizes_taken at t bytes u e =
    let n = took at 1 _ bytes u e in
    let s = took (at + 1) (number n.head) _ n.tail u n.goes_on in
    let one = single n.head n.long in
    let byte : get_or n.head 0 0 ≡ length s.head = sym (s.long ∙ ap number one ∙ one_byte _) in
    record {
      sizes = s.head;
      rest = s.tail;
      parts = n.parts ∙ ap₂ ◌++◌ (one ∙ ap (λ b. b ∷ []) byte) s.parts;
      place = at + 1 + number n.head;
      goes_on = sym (goes_on_lem read_from (at + 1 + number n.head) pairs_due (sized s.head) s.tail) ∙ s.goes_on;
    }

-- the bytes of a pair, part by part
pair_parts : (bytes lower after_lower higher after_higher words rest : List ℕ) (l h : ℕ) → bytes ≡ lower ++ after_lower → after_lower ≡ higher ++ after_higher
    → after_higher ≡ words ++ rest → lower ≡ l ∷ [] → higher ≡ h ∷ [] → bytes ≡ l ∷ h ∷ (words ++ rest)
pair_parts bytes lower after_lower higher after_higher words rest l h p q r one other = p ∙ ap₂ ◌++◌ one (q ∙ ap₂ ◌++◌ other r)

-- the tables after a pair, from the bytes of its boats
pair_grown : (place : ℕ) (t : Tables) (lower higher words rest : List ℕ) (l h : ℕ) (u : Tables) → lower ≡ l ∷ [] → higher ≡ h ∷ [] → number lower ≡ l
    → read_rest read_from place
    (over pairs_due (record { sizes = t.sizes; pairs = t.pairs ++ (lower ++ higher); rows = t.rows ++ words_of (size t.sizes (number lower)) words })) rest ≡ read u
    → read_from place pairs_due (with_pair t l h words) rest ≡ read u
pair_grown place t lower higher words rest l h u one other value e =
    ap₂ (λ ps k. read_from place pairs_due (record { sizes = t.sizes; pairs = t.pairs ++ ps; rows = t.rows ++ words_of (size t.sizes k) words }) rest)
    (sym (ap₂ ◌++◌ one other)) (sym value)
    ∙ sym (goes_on_lem read_from place pairs_due _ rest)
    ∙ e

pair_taken : (at : ℕ) (t : Tables) (bytes : List ℕ) (u : Tables) → read_rest read_from at (pair_rest t) bytes ≡ read u → PairTaken t bytes u
unfolding pair_rest words_rest
pair_taken at t bytes u e =
    let lower = took at 1 _ bytes u e in
    let slots = size t.sizes (number lower.head) in
    let one = single lower.head lower.long in
    let value = ap number one ∙ one_byte (get_or lower.head 0 0) in
    let p = passed (at + 1) (leb (boats t) (number lower.head)) 23 1 (words_rest t lower.head slots) lower.tail u lower.goes_on in
    let below : number lower.head < boats t = leb-false _ _ p.0 in
    let higher = took (at + 1) 1 _ lower.tail u p.1 in
    let other = single higher.head higher.long in
    let words = took (at + 1 + 1) (8 * slots) _ higher.tail u higher.goes_on in
    record {
      l = get_or lower.head 0 0;
      h = get_or higher.head 0 0;
      words = words.head;
      rest = words.tail;
      parts = pair_parts bytes _ _ _ _ words.head words.tail _ _ lower.parts higher.parts words.parts one other;
      there = omega arith;
      long = words.long ∙ ap (λ k. 8 * size t.sizes k) value;
      place = at + 1 + 1 + 8 * slots;
      goes_on = pair_grown (at + 1 + 1 + 8 * slots) t lower.head higher.head words.head words.tail _ _ u one other value words.goes_on;
    }

end_taken : (at : ℕ) (t : Tables) (bytes : List ℕ) (u : Tables) → read_rest read_from at (end_rest t) bytes ≡ read u → EndTaken t bytes u
unfolding end_rest
end_taken at t bytes u e =
    let count = took at 2 _ bytes u e in
    let p = passed (at + 2) _ 24 2 (end t) count.tail u count.goes_on in
    let none = no_more (at + 2) t count.tail u p.1 in
    let all : bytes ≡ count.head = count.parts ∙ ap (λ l. count.head ++ l) none.0 ∙ append-nil count.head in
    record { long = ap length all ∙ count.long; right = ap number all ∙ eqb-true _ _ (not-false _ p.0); whole = none.1 }

-- ---- bytes that are read where a mark is due
pub sizes_due_lem : (at : ℕ) (t : Tables) (bytes : List ℕ) (u : Tables) → read_from at sizes_due t bytes ≡ read u
    → (later : List ℕ) × (bytes ≡ SZ ++ later) × SizesTaken t later u
sizes_due_lem at t bytes u e = let mark = took at 2 _ bytes u (sym (from_is at sizes_due t bytes) ∙ e) in by mark.tail mark.head mark.parts (known (at + 2) mark.head (due sizes_due) t mark.tail u mark.goes_on)
  where
    by : (later mark : List ℕ) → bytes ≡ mark ++ later → Known (at + 2) mark (due sizes_due) t later u → (later : List ℕ) × (bytes ≡ SZ ++ later) × SizesTaken t later u
    by later mark parts (inl k) = (later, parts ∙ ap (λ m. m ++ later) k.0, sizes_taken (at + 2) t later u k.1)
    by later mark parts (inr k) = absurd k

abbrev pub PairOrEnd : Tables → List ℕ → Tables → Type 0
PairOrEnd t bytes u = ((later : List ℕ) × (bytes ≡ PR ++ later) × PairTaken t later u) ⊎ ((later : List ℕ) × (bytes ≡ ED ++ later) × EndTaken t later u)

pub pairs_due_lem : (at : ℕ) (t : Tables) (bytes : List ℕ) (u : Tables) → read_from at pairs_due t bytes ≡ read u → PairOrEnd t bytes u
pairs_due_lem at t bytes u e = let mark = took at 2 _ bytes u (sym (from_is at pairs_due t bytes) ∙ e) in by mark.tail mark.head mark.parts (known (at + 2) mark.head (due pairs_due) t mark.tail u mark.goes_on)
  where
    by : (later mark : List ℕ) → bytes ≡ mark ++ later → Known (at + 2) mark (due pairs_due) t later u → PairOrEnd t bytes u
    by later mark parts (inl k) = inl (later, parts ∙ ap (λ m. m ++ later) k.0, pair_taken (at + 2) t later u k.1)
    by later mark parts (inr (inl k)) = inr (later, parts ∙ ap (λ m. m ++ later) k.0, end_taken (at + 2) t later u k.1)
    by later mark parts (inr (inr k)) = absurd k

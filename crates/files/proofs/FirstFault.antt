-- The first fault in the bytes: what it depends on, and what more bytes change. (Document 02, No. 2.)
use mathlib.Core.Path.{◌≡◌, refl, sym, ap, ◌∙◌}
use mathlib.Core.Bool.{Bool, true, false}
use mathlib.Core.List.{List, ◌∷◌, ◌++◌, append_assoc}
use Prim.Native.Nat.{ℕ, suc, ◌+◌, ◌≤◌}
use native.Mathlib.Nat.{zero-add}
use native.Mathlib.Omega.{arith}
use borrow.Author.Tests.{eqb-true, eqb-false}
use lib.Dec.{eqb}
use lib.ListN.{length, take, drop, length-append, take-append-drop}
use lib.Seq.{take_at}
use Rattle.problem.specs.Tables.{Tables}
use Rattle.files.specs.Bytes.{Below}
use Rattle.files.specs.Reading.{fault, read, sizes_due, nothing, reading, width_of}
use Rattle.files.specs.Promises.{NotCut}
use Rattle.files.proofs.Fates.{Fate, refused, ended, whole, Cut, fate_of}

fate : (file : List ℕ) → Fate reading 0 file
unfolding reading
fate file = fate_of 0 sizes_due nothing file

-- ---- a refusal, and what is at fault
pub record Fault (file : List ℕ) (number place after : ℕ) : Type 0 where
  pub from : 21 ≤ number
  pub upto : number ≤ 25
  pub width : after ≡ place + width_of number
  pub inside : after ≤ length file
  pub at_end : number ≡ 22 → place ≡ length file
  pub same : (number ≡ 22 → ⊥) → (other : List ℕ) → reading (take after file ++ other) ≡ fault number place after
  pub changed : number ≡ 22 → (more : List ℕ) × Below 256 more × NotCut (reading (file ++ more))

pub fault_is : (file : List ℕ) (number place after : ℕ) → reading file ≡ fault number place after → Fault file number place after
fault_is file number place after e = by (fate file)
  where
    by : Fate reading 0 file → Fault file number place after
    by (refused r) =
        let q : fault number place after ≡ fault r.number r.place (0 + length r.head) = sym e ∙ ap reading r.parts ∙ r.always r.tail in
        let n : number ≡ r.number = cc in
        let p : place ≡ r.place = cc in
        let a : after ≡ 0 + length r.head = cc in
        let cut_off : take after file ≡ r.head = ap (take after) r.parts ∙ take_at r.head r.tail after (omega arith) in
        record {
          from = omega (arith, r.from);
          upto = omega (arith, r.upto);
          width = a ∙ sym r.width ∙ (rw (n, p));
          inside = omega (arith, ap length r.parts, length-append r.head r.tail);
          at_end = λ z. absurd (r.not_cut (omega arith));
          same = λ z other. rw cut_off (r.always other ∙ sym q);
          changed = λ z. absurd (r.not_cut (omega arith));
        }
    by (ended c) =
        let q : fault number place after ≡ fault 22 (0 + length file) (0 + length file) = sym e ∙ c.ends in
        let n : number ≡ 22 = cc in
        let p : place ≡ 0 + length file = cc in
        let a : after ≡ 0 + length file = cc in
        record {
          from = omega arith;
          upto = omega arith;
          width = a ∙ sym p ∙ rw n (omega arith);
          inside = omega arith;
          at_end = λ z. omega arith;
          same = λ z. absurd (z n);
          changed = λ z. (c.more, c.are_bytes, c.changes);
        }
    by (whole w) = let z : ◌≡◌ {A = ℕ} 0 1 = cc (e, w.is) in absurd (omega arith)

-- ---- in the words of the page of promises
module _ (file : List ℕ) (number place after : ℕ) (e : reading file ≡ fault number place after) where
  -- what is at fault: a mark (21), nothing (22), the lower boat's byte (23), both count bytes (24), one byte (25); all of it is there
  pub at_fault : (after ≡ place + width_of number) × (after ≤ length file)
  at_fault = let f = fault_is file number place after e in (f.width, f.inside)

  -- 21, 23, 24 and 25 depend on no byte after what is at fault
  pub first_fault_lem : (number ≡ 22 → ⊥) → (other : List ℕ) → reading (take after file ++ other) ≡ fault number place after
  first_fault_lem = (fault_is file number place after e).same

  -- so no bytes after the file change them
  pub more_same : (number ≡ 22 → ⊥) → (more : List ℕ) → reading (file ++ more) ≡ fault number place after
  more_same z more =
      ap reading (ap (λ l. l ++ more) (sym (take-append-drop after file)) ∙ append_assoc (take after file) (drop after file) more)
      ∙ (fault_is file number place after e).same z (drop after file ++ more)

  -- and a refusal that some bytes after the file change is 22
  pub changed_cut : (more : List ℕ) → (reading (file ++ more) ≡ fault number place after → ⊥) → number ≡ 22
  changed_cut more z = by (eqb number 22) refl
    where
      by : (b : Bool) → eqb number 22 ≡ b → number ≡ 22
      by true q = eqb-true number 22 q
      by false q = absurd (z (more_same (eqb-false number 22 q) more))

-- 22 stands at the file's length, and some bytes put after the file change it into another number or into a reading
pub cut_place : (file : List ℕ) (place after : ℕ) → reading file ≡ fault 22 place after → place ≡ length file
cut_place file place after e = (fault_is file 22 place after e).at_end refl

pub cut_changes : (file : List ℕ) (place after : ℕ) → reading file ≡ fault 22 place after → (more : List ℕ) × Below 256 more × NotCut (reading (file ++ more))
cut_changes file place after e = (fault_is file 22 place after e).changed refl

-- after a file that is read any byte is one too many
pub read_no_more : (file : List ℕ) (t : Tables) → reading file ≡ read t → (b : ℕ) (more : List ℕ)
    → reading (file ++ (b ∷ more)) ≡ fault 25 (length file) (suc (length file))
read_no_more file t e b more = by (fate file)
  where
    by : Fate reading 0 file → reading (file ++ (b ∷ more)) ≡ fault 25 (length file) (suc (length file))
    by (refused r) = let z : ◌≡◌ {A = ℕ} 0 1 = cc (e, ap reading r.parts ∙ r.always r.tail) in absurd (omega arith)
    by (ended c) = let z : ◌≡◌ {A = ℕ} 0 1 = cc (e, c.ends) in absurd (omega arith)
    by (whole w) = w.no_more b more ∙ ap (λ p. fault 25 p (suc p)) (zero-add (length file))

-- and a file that is read, cut anywhere, is 22 at the cut
pub cut_anywhere : (front : List ℕ) (b : ℕ) (back : List ℕ) (t : Tables) → reading (front ++ (b ∷ back)) ≡ read t
    → reading front ≡ fault 22 (length front) (length front)
cut_anywhere front b back t e = by (fate front)
  where
    by : Fate reading 0 front → reading front ≡ fault 22 (length front) (length front)
    by (refused r) =
        let parts = ap (λ l. l ++ (b ∷ back)) r.parts ∙ append_assoc r.head r.tail (b ∷ back) in
        let z : ◌≡◌ {A = ℕ} 0 1 = cc (e, ap reading parts ∙ r.always (r.tail ++ (b ∷ back))) in
        absurd (omega arith)
    by (ended c) = c.ends ∙ ap (λ p. fault 22 p p) (zero-add (length front))
    by (whole w) = let z : ◌≡◌ {A = ℕ} 0 1 = cc (e, w.no_more b back) in absurd (omega arith)

-- What may come of bytes, and what bytes after them change.
use mathlib.Core.Path.{◌≡◌, refl, sym, ap, subst, fun_ext, ◌∙◌}
use mathlib.Core.Bool.{Bool, true, false, not}
use mathlib.Core.List.{List, [], ◌∷◌, ◌++◌, append_assoc}
use Prim.Native.Nat.{ℕ, zero, suc, ◌+◌, ◌-◌, ◌≤◌, ◌<◌}
use native.Mathlib.Omega.{arith}
use borrow.Author.Tests.{ltb-true, ltb-false}
use lib.Dec.{ltb, leb, eqb}
use lib.ListN.{length, take, drop, replicate, length-append, length-drop, length-replicate, get_or-replicate, take-append-drop}
use lib.Seq.{length-take-le}
use Rattle.problem.specs.Tables.{Tables, boats, listed}
use Rattle.files.specs.Bytes.{Below, number}
use Rattle.files.specs.Reading.{Reading, fault, read, Stage, sizes_due, pairs_due, Rest, next, refuse, over, end, refuse_if, sizes_rest, words_rest, pair_rest, end_rest, Kind, due, same, after_mark, cut, read_rest, read_from, width_of}
use Rattle.files.specs.Promises.{NotCut}
use Rattle.files.proofs.Bytes.{below_join}
use Rattle.files.proofs.Onward.{short, given, from_is}

-- ---- what a record refuses is 21 to 25 and not 22, and the bytes at fault are the record's
pub record Tells (taken number width : ℕ) : Type 0 where
  pub from : 21 ≤ number
  pub upto : number ≤ 25
  pub not_cut : number ≡ 22 → ⊥
  pub wide : width ≡ width_of number
  pub inside : width ≤ taken

abbrev pub Proper : (taken : ℕ) → Rest → Type 0
Proper taken (next k rest) = (bytes : List ℕ) → Proper (taken + k) (rest bytes)
Proper taken (refuse which width) = Tells taken which width
Proper taken (over stage t) = Unit {0}
Proper taken (end t) = Unit {0}

if_proper : (taken : ℕ) (b : Bool) (which width : ℕ) (rest : Rest) → Tells taken which width → Proper taken rest → Proper taken (refuse_if b which width rest)
if_proper taken true which width rest p q = p
if_proper taken false which width rest p q = q

sizes_proper : (t : Tables) → Proper 2 (sizes_rest t)
unfolding sizes_rest
sizes_proper t n sizes = tt

pair_proper : (t : Tables) → Proper 2 (pair_rest t)
unfolding pair_rest words_rest
pair_proper t lower = if_proper 3 (leb (boats t) (number lower)) 23 1 _ (omega arith) (λ higher words. tt)

end_proper : (t : Tables) → Proper 2 (end_rest t)
unfolding end_rest
end_proper t count = if_proper 4 (not (eqb (number count) (listed t.pairs))) 24 2 (end t) (omega arith) tt

abbrev AllProper : List Kind → Tables → Type 0
AllProper [] t = Unit {0}
AllProper (kind ∷ kinds) t = Proper 2 (kind.rest t) × AllProper kinds t

due_proper : (stage : Stage) (t : Tables) → AllProper (due stage) t
due_proper sizes_due t = (sizes_proper t, tt)
due_proper pairs_due t = (pair_proper t, (end_proper t, tt))

mark_proper : (mark : List ℕ) (kinds : List Kind) (t : Tables) → AllProper kinds t → Proper 2 (after_mark mark kinds t)
unfolding after_mark
mark_proper mark [] t p = omega arith
mark_proper mark (kind ∷ kinds) t p = by (same mark kind.mark) p.0 (mark_proper mark kinds t p.1)
  where
    by : (b : Bool) → Proper 2 (kind.rest t) → Proper 2 (after_mark mark kinds t) → Proper 2 (elim b [ true ↦ kind.rest t | false ↦ after_mark mark kinds t ])
    by true p q = p
    by false p q = q

-- ---- what may come of bytes that are read from the place `at` on
-- some first bytes of them are refused, whatever comes after these
pub record Refused (reads : List ℕ → Reading) (at : ℕ) (bytes : List ℕ) : Type 0 where
  pub head : List ℕ
  pub tail : List ℕ
  pub number : ℕ
  pub place : ℕ
  pub parts : bytes ≡ head ++ tail
  pub from : 21 ≤ number
  pub upto : number ≤ 25
  pub not_cut : number ≡ 22 → ⊥
  pub width : place + width_of number ≡ at + length head
  pub always : (other : List ℕ) → reads (head ++ other) ≡ fault number place (at + length head)

-- they end too early, and more bytes change that
pub record Cut (reads : List ℕ → Reading) (at : ℕ) (bytes : List ℕ) : Type 0 where
  pub ends : reads bytes ≡ cut at bytes
  pub more : List ℕ
  pub are_bytes : Below 256 more
  pub changes : NotCut (reads (bytes ++ more))

-- they are read, and any more bytes are one too many
pub record Read (reads : List ℕ → Reading) (at : ℕ) (bytes : List ℕ) : Type 0 where
  pub tables : Tables
  pub is : reads bytes ≡ read tables
  pub no_more : (b : ℕ) (more : List ℕ) → reads (bytes ++ (b ∷ more)) ≡ fault 25 (at + length bytes) (suc (at + length bytes))

pub data Fate (reads : List ℕ → Reading) (at : ℕ) (bytes : List ℕ) : Type 0 where
  refused : Refused reads at bytes → Fate reads at bytes
  ended : Cut reads at bytes → Fate reads at bytes
  whole : Read reads at bytes → Fate reads at bytes

-- ---- some bytes bring a record to its end, and no known mark is 0, 0
zeros : ℕ → List ℕ
zeros k = replicate k 0

zeros_bytes : (k : ℕ) → Below 256 (zeros k)
unfolding zeros
zeros_bytes k i l = rw (get_or-replicate {A = ℕ} k i 0 0 (omega (arith, length-replicate {A = ℕ} k 0))) (omega arith)

zeros_length : (k : ℕ) → length (zeros k) ≡ k
unfolding zeros
zeros_length k = length-replicate k 0

mark_unknown : (at : ℕ) (stage : Stage) (t : Tables) → NotCut (read_from at stage t (0 ∷ 0 ∷ []))
unfolding after_mark same read_rest
mark_unknown at sizes_due t = rw (from_is at sizes_due t (0 ∷ 0 ∷ [])) (omega arith)
mark_unknown at pairs_due t = rw (from_is at pairs_due t (0 ∷ 0 ∷ [])) (omega arith)

record Completed (at : ℕ) (rest : Rest) : Type 0 where
  more : List ℕ
  are_bytes : Below 256 more
  not_cut : NotCut (read_rest read_from at rest more)

completed : (at taken : ℕ) (rest : Rest) → Proper taken rest → Completed at rest
unfolding read_rest zeros
completed at taken (next k rest) p =
    let c = completed (at + k) (taken + k) (rest (zeros k)) (p (zeros k)) in
    record {
      more = zeros k ++ c.more;
      are_bytes = below_join (zeros k) c.more (zeros_bytes k) c.are_bytes;
      not_cut = rw (given read_from at k rest (zeros k) c.more (zeros_length k)) c.not_cut;
    }
completed at taken (refuse which width) p = record { more = []; are_bytes = zeros_bytes 0; not_cut = p.not_cut }
completed at taken (over stage t) p = record { more = 0 ∷ 0 ∷ []; are_bytes = zeros_bytes 2; not_cut = mark_unknown at stage t }
completed at taken (end t) p = record { more = []; are_bytes = zeros_bytes 0; not_cut = tt }

-- ---- bytes before: what comes of the rest comes of the whole
module _ (reads later : List ℕ → Reading) (at : ℕ) (front : List ℕ) (e : (bytes : List ℕ) → reads (front ++ bytes) ≡ later bytes) where
  place_after : (bytes : List ℕ) → at + length front + length bytes ≡ at + length (front ++ bytes)
  place_after bytes = omega (arith, length-append front bytes)

  lifted : (bytes : List ℕ) → Fate later (at + length front) bytes → Fate reads at (front ++ bytes)
  lifted bytes (refused r) =
      refused (record {
        head = front ++ r.head;
        tail = r.tail;
        number = r.number;
        place = r.place;
        parts = ap (λ l. front ++ l) r.parts ∙ sym (append_assoc front r.head r.tail);
        from = r.from;
        upto = r.upto;
        not_cut = r.not_cut;
        width = r.width ∙ place_after r.head;
        always = λ other.
            ap reads (append_assoc front r.head other) ∙ e (r.head ++ other) ∙ r.always other ∙ ap (fault r.number r.place) (place_after r.head);
      })
  lifted bytes (ended c) =
      ended (record {
        ends = e bytes ∙ c.ends ∙ ap (λ p. fault 22 p p) (place_after bytes);
        more = c.more;
        are_bytes = c.are_bytes;
        changes = rw (append_assoc front bytes c.more, e (bytes ++ c.more)) c.changes;
      })
  lifted bytes (whole w) =
      whole (record {
        tables = w.tables;
        is = e bytes ∙ w.is;
        no_more = λ b more.
            ap reads (append_assoc front bytes (b ∷ more)) ∙ e (bytes ++ (b ∷ more)) ∙ w.no_more b more ∙ ap (λ p. fault 25 p (suc p)) (place_after bytes);
      })

-- ---- any bytes have one of the three fates
next_fate : (at taken k : ℕ) (rest : List ℕ → Rest) → ((bytes : List ℕ) → Proper (taken + k) (rest bytes)) → (bytes : List ℕ)
    → (k ≤ length bytes → Fate (read_rest read_from (at + k) (rest (take k bytes))) (at + k) (drop k bytes))
    → Fate (read_rest read_from at (next k rest)) at bytes
next_fate at taken k rest p bytes fate = by (ltb (length bytes) k) refl
  where
    by : (b : Bool) → ltb (length bytes) k ≡ b → Fate (read_rest read_from at (next k rest)) at bytes
    by true q =
        let few : length bytes < k = ltb-true _ _ q in
        let filling = zeros (k - length bytes) in
        let all : length (bytes ++ filling) ≡ k = omega (arith, length-append bytes filling, zeros_length (k - length bytes)) in
        let c = completed (at + k) (taken + k) (rest (bytes ++ filling)) (p (bytes ++ filling)) in
        ended (record {
          ends = short read_from at k rest bytes few;
          more = filling ++ c.more;
          are_bytes = below_join filling c.more (zeros_bytes (k - length bytes)) c.are_bytes;
          changes = rw (← append_assoc bytes filling c.more, given read_from at k rest (bytes ++ filling) c.more all) c.not_cut;
        })
    by false q =
        let long : k ≤ length bytes = ltb-false _ _ q in
        let all : length (take k bytes) ≡ k = length-take-le k bytes long in
        rw take-append-drop at
        (lifted (read_rest read_from at (next k rest)) (read_rest read_from (at + k) (rest (take k bytes))) at (take k bytes)
        (λ later. given read_from at k rest (take k bytes) later all) (drop k bytes) (rw all (fate long)))

abbrev Fated : ℕ → Type 0
Fated most = (at : ℕ) (stage : Stage) (t : Tables) (bytes : List ℕ) → length bytes ≤ most → Fate (read_from at stage t) at bytes

module _ (most : ℕ) (fated : Fated most) where
  rest_fate : (at taken : ℕ) (rest : Rest) → Proper taken rest → taken ≤ at → (bytes : List ℕ) → length bytes ≤ most → Fate (read_rest read_from at rest) at bytes
  unfolding read_rest
  rest_fate at taken (next k rest) p h bytes l =
      next_fate at taken k rest p bytes
      (λ long. rest_fate (at + k) (taken + k) (rest (take k bytes)) (p (take k bytes)) (omega arith) (drop k bytes) (omega (arith, length-drop k bytes)))
  rest_fate at taken (refuse which width) p h bytes l =
      refused (record {
        head = [];
        tail = bytes;
        number = which;
        place = at - width;
        parts = refl;
        from = p.from;
        upto = p.upto;
        not_cut = p.not_cut;
        width = omega (arith, p.wide, p.inside);
        always = λ other. ap (fault which (at - width)) (omega arith);
      })
  rest_fate at taken (over stage t) p h bytes l = fated at stage t bytes l
  rest_fate at taken (end t) p h [] l = whole (record { tables = t; is = refl; no_more = λ b more. ap (λ q. fault 25 q (suc q)) (omega arith) })
  rest_fate at taken (end t) p h (b ∷ bytes) l =
      refused (record {
        head = b ∷ [];
        tail = bytes;
        number = 25;
        place = at;
        parts = refl;
        from = omega arith;
        upto = omega arith;
        not_cut = omega arith;
        width = omega arith;
        always = λ other. ap (fault 25 at) (omega arith);
      })

-- a mark, and what the rest of its record comes to
mark_fate : (at : ℕ) (stage : Stage) (t : Tables) (bytes : List ℕ)
    → (2 ≤ length bytes → Fate (read_rest read_from (at + 2) (after_mark (take 2 bytes) (due stage) t)) (at + 2) (drop 2 bytes))
    → Fate (read_from at stage t) at bytes
mark_fate at stage t bytes fate =
    subst (λ (reads : List ℕ → Reading). Fate reads at bytes) (sym (fun_ext (from_is at stage t)))
    (next_fate at 0 2 (λ mark. after_mark mark (due stage) t) (λ mark. mark_proper mark (due stage) t (due_proper stage t)) bytes fate)

fated : (most : ℕ) → Fated most
fated zero at stage t bytes l = mark_fate at stage t bytes (λ long. absurd (omega arith))
fated (suc most) at stage t bytes l =
    mark_fate at stage t bytes (λ long.
    rest_fate most (fated most) (at + 2) 2 _ (mark_proper (take 2 bytes) (due stage) t (due_proper stage t)) (omega arith) (drop 2 bytes)
    (omega (arith, length-drop 2 bytes)))

pub fate_of : (at : ℕ) (stage : Stage) (t : Tables) (bytes : List ℕ) → Fate (read_from at stage t) at bytes
fate_of at stage t bytes = fated (length bytes) at stage t bytes (omega arith)

-- What the writer answers and leaves, as the code comes to it: the examination's refusals, then 26, then the file.
use mathlib.Core.Path.{◌≡◌, refl, sym, ap, ap₂, ◌∙◌}
use mathlib.Core.List.{List, [], ◌∷◌, ◌++◌}
use Prim.Native.Nat.{ℕ, ◌+◌, ◌*◌, ◌≤◌, ◌<◌}
use native.Mathlib.Omega.{arith}
use borrow.Author.Tests.{lt-ltb, le-ltb}
use borrow.Rule.Slice.PartMut.{put_mid}
use lib.ListN.{length, drop, length-append}
use Rattle.std.specs.Prelude.{Result}
use Rattle.std.specs.Result.{IsErrAnd}
use Rattle.std.proofs.lemmas.Result.{err_from_is_err_and}
use Rattle.problem.specs.declared.Refusal.{Refusal}
use Rattle.problem.specs.Tables.{Tables, boats, listed}
use Rattle.problem.specs.Sane.{Sane}
use Rattle.problem.specs.Replies.{Told, told, refused, refusal_told}
use Rattle.tables.specs.Examination.{tests, fine_told, examination}
use Rattle.tables.proofs.Laws.{large_gives}
use Rattle.tables.proofs.Fine.{sane_fine}
use Rattle.files.specs.Bytes.{bytes_of, joined}
use Rattle.files.specs.File.{ED, sizes_record, pair_record, end_record, file_of}
use Rattle.files.specs.Writer.{write_answer, written_room}
use Rattle.files.proofs.Bytes.{bytes_length}
use Rattle.files.proofs.Lengths.{pairs_long_lem, file_long}
use Rattle.files.proofs.Writer.{write_examined, write_small, write_whole}
use Rattle.writer.specs.Replies.{written_told}
use Rattle.writer.proofs.Puts.{Puts, puts_front, puts_part, puts_length, puts_then, puts_whole}

-- the examination refuses the tables
pub examined_refused : (t : Tables) (room : List ℕ) {w : Told} → w ≡ examination t → 100 ≤ w.number → (w ≡ write_answer t room) × (room ≡ written_room t room)
unfolding examination
examined_refused t room {w} e l =
    let x = write_examined t room (examination t) (large_gives (tests t) (fine_told t) (omega arith) (omega (arith, ap (λ v. v.number) e))) in
    (e ∙ sym x.says, sym x.leaves)

pub refused_written : (t : Tables) (room : List ℕ) (r : Result ℕ Refusal) (why : Refusal) → IsErrAnd r (λ e. e ≡ why) → refusal_told why ≡ examination t
    → (written_told r ≡ write_answer t room) × (room ≡ written_room t room)
refused_written t room r why is told_so =
    let p = err_from_is_err_and r is in
    examined_refused t room (rw (p.1, p.2) told_so) (rw (p.1, p.2) (omega arith))

-- ---- the tables are sane
module _ (t : Tables) (sane : Sane t) (room : List ℕ) where
  -- the memory is shorter than the file
  pub room_refused : length room < length (file_of t) → (refused 26 0 ≡ write_answer t room) × (room ≡ written_room t room)
  room_refused l =
      let x = write_small t room (sane_fine t sane) (lt-ltb _ _ l) in
      (sym x.says, sym x.leaves)

  -- the parts are there one after another, and so is the file
  pub file_answered : (head sizes pairs tail : List ℕ) (front last size_part pair_part tail_part : ℕ)
      → head ≡ 0x53 ∷ 0x5A ∷ boats t ∷ [] → sizes ≡ t.sizes → pairs ≡ joined (listed t.pairs) (pair_record t) → tail ≡ ED ++ bytes_of 2 (listed t.pairs)
      → front ≡ 3 + boats t → last ≡ front + (4 * listed t.pairs + 8 * length t.rows) → last + 4 ≤ length room
      → size_part ≡ boats t → pair_part ≡ 4 * listed t.pairs + 8 * length t.rows → tail_part ≡ 4
      → (told 0 ((last + 4) ∷ []) ≡ write_answer t room)
      × (put_mid last tail_part (put_mid front pair_part (put_mid 3 size_part (head ++ drop 3 room) sizes) pairs) tail ≡ written_room t room)
  unfolding file_of sizes_record end_record
  file_answered head sizes pairs tail front last size_part pair_part tail_part h s p e front-is last-is fits size-is pair-is tail-is =
      let long = pairs_long_lem t (listed t.pairs) in
      let first : Puts head 0 room (head ++ drop 3 room) = puts_front room head 3 (ap length h) (omega arith) in
      let second = puts_part (head ++ drop 3 room) sizes 3 size_part (ap length s ∙ sym size-is) (omega (arith, puts_length first)) in
      let third = puts_part (put_mid 3 size_part (head ++ drop 3 room) sizes) pairs front pair_part (ap length p ∙ long ∙ omega (arith, pair-is, sane.row_words)) (omega (arith, puts_length first, puts_length second)) in
      let fourth = puts_part (put_mid front pair_part (put_mid 3 size_part (head ++ drop 3 room) sizes) pairs) tail last tail_part (ap length e ∙ length-append ED (bytes_of 2 (listed t.pairs)) ∙ omega (arith, bytes_length 2 (listed t.pairs), tail-is))
      (omega (arith, puts_length first, puts_length second, puts_length third)) in
      let whole : Puts (file_of t) 0 room _ =
      puts_then first (omega (arith, ap length h)) (ap₂ ◌++◌ h (ap₂ ◌++◌ s (ap₂ ◌++◌ p e)))
      (puts_then second (omega (arith, ap length s)) refl (puts_then third (omega (arith, ap length p, long, sane.row_words)) refl fourth)) in
      let x = write_whole t room (sane_fine t sane) (le-ltb (length room) (length (file_of t)) (omega (arith, whole.inside))) in
      (ap (λ n. told 0 (n ∷ [])) (omega (arith, file_long t sane)) ∙ sym x.says, puts_whole whole ∙ sym x.leaves)

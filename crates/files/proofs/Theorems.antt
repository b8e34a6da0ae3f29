-- The laws of the file, its reading and its writing, as the page of promises cites them. (Document 02, No. 2.)
use mathlib.Core.Path.{◌≡◌, sym, ap, ◌∙◌}
use mathlib.Core.Logic.{◌↔◌}
use mathlib.Core.Bool.{false}
use mathlib.Core.List.{List, [], ◌∷◌}
use Prim.Native.Nat.{ℕ, ◌≤◌}
use native.Mathlib.Omega.{arith}
use lib.ListN.{length, get_or, take}
use Rattle.problem.specs.Tables.{Tables, boats}
use Rattle.problem.specs.Plans.{Lawful}
use Rattle.problem.specs.Replies.{told, refused}
use Rattle.tables.specs.Applies.{NoneApplies, none, nor}
use Rattle.tables.specs.Examination.{fine_told, examination, Fine}
use Rattle.tables.proofs.Laws.{small_none, none_is_fine}
use Rattle.tables.proofs.Fine.{fine_sane, fine_told_lem}
use Rattle.questions.specs.Questions.{given_tests, some_broken, yes_or_no, lawful_question}
use Rattle.questions.proofs.Laws.{lawful_yes, yes_lawful}
use Rattle.files.specs.Bytes.{Below}
use Rattle.files.specs.File.{file_of}
use Rattle.files.specs.Reading.{fault, read, reading}
use Rattle.files.specs.Limits.{Whole}
use Rattle.files.specs.Rooms.{Rooms, too_short, too_small, covering}
use Rattle.files.specs.Reader.{refused_result, standing_result, result_of, read_result, desk_result}
use Rattle.files.specs.Writer.{write_answer, written_room}
use Rattle.files.specs.Promises.{OfFile, Untouched, SameLengths, TooSmall, Stands, FineFile, LawfulByFile, Left, RoomShort}
use Rattle.files.proofs.Written.{read_written}
use Rattle.files.proofs.OneFile.{one_file}
use Rattle.files.proofs.Limits.{sane_whole, sane_small, file_bytes}
use Rattle.files.proofs.Lengths.{rows_few, file_few}
use Rattle.files.proofs.Numbers.{examination_other, lawful_other, refused_first}
use Rattle.files.proofs.Reader.{small_26, read_stands, of_file_untouched, refused_fault, small_for_26, other_stands, lengths_kept, refused_alike, as_asked}
use Rattle.files.proofs.Writer.{write_small, write_whole, zero_written, short_of_26}

-- ---- the file and what it means
-- tables that pass the examination have a file of bytes, and reading it gives the same tables
pub fine_written : (t : Tables) → Fine t → Below 256 (file_of t) × (reading (file_of t) ≡ read t)
fine_written t f =
    let s = fine_sane t f in
    (file_bytes t (sane_whole t s) (sane_small t s), read_written t (sane_whole t s))

-- what is enough for every file whose tables pass the examination: 64 bytes, 4,032 bytes, 129,024 words, and 1,040,327 bytes for the file
pub fine_few : (t : Tables) → Fine t → (boats t ≤ 64) × (length t.pairs ≤ 4032) × (length t.rows ≤ 129024) × (length (file_of t) ≤ 1040327)
fine_few t f =
    let s = fine_sane t f in
    (s.few_boats, omega (arith, s.two_bytes, s.few_pairs), rows_few t s, file_few t s)

-- one problem, one file: bytes that are read are the file of what was read
pub one_problem_one_file : (file : List ℕ) (t : Tables) → Below 256 file → reading file ≡ read t → file_of t ≡ file
one_problem_one_file file t small e = (one_file file t small e).1

-- so the files that are read are exactly those that are written for tables which a file can carry
pub read_exactly : (file : List ℕ) (t : Tables) → Below 256 file → (reading file ≡ read t) ↔ (Whole t × (file_of t ≡ file))
read_exactly file t small = (one_file file t small, λ w. ap reading (sym w.1) ∙ read_written t w.0)

-- ---- the reader
module _ (file : List ℕ) (m : Rooms) where
  -- 21 to 25: the first fault in the bytes, and nothing is written
  pub read_refuses_fault : (number place after : ℕ) → reading file ≡ fault number place after → read_result file m ≡ refused_result number place m
  unfolding read_result
  read_refuses_fault number place after e = ap (λ r. result_of examination r m) e

  -- and such a refusal is said of no other bytes
  pub read_refused_has_fault : (number place : ℕ) → number ≤ 25 → 21 ≤ number → (read_result file m).answer ≡ refused number place
      → (after : ℕ) × (reading file ≡ fault number place after)
  unfolding read_result
  read_refused_has_fault = refused_fault examination file m examination_other

  -- 26 exactly where the file is read and a part of the lent memory is too short; its place is 0, and nothing is written
  pub read_26_exactly : ((read_result file m).answer.number ≡ 126) ↔ TooSmall file m
  unfolding read_result
  read_26_exactly = (small_for_26 examination file m examination_other, λ s. ap (λ r. r.answer.number) (small_26 examination file m s))

  pub read_refuses_small : TooSmall file m → read_result file m ≡ refused_result 26 0 m
  unfolding read_result
  read_refuses_small = small_26 examination file m

  -- 21 to 26 write nothing
  pub read_refused_untouched : OfFile (read_result file m).answer.number → Untouched m (read_result file m)
  unfolding read_result
  read_refused_untouched = of_file_untouched examination file m examination_other

  -- all else leaves the tables standing, with the lengths written: fine, and every refusal of the examination
  pub read_leaves_standing : (OfFile (read_result file m).answer.number → ⊥) → Stands examination file m (read_result file m)
  unfolding read_result
  read_leaves_standing = other_stands examination file m

  -- the lent parts keep their lengths
  pub read_keeps_lengths : SameLengths m (read_result file m)
  unfolding read_result
  read_keeps_lengths = lengths_kept examination (reading file) m

  -- fine is said of the files that are written for tables which pass the examination, and of no other
  pub read_fine_is_file : Below 256 file → (read_result file m).answer.number ≡ 0 → FineFile file m
  read_fine_is_file small e =
      let s = read_leaves_standing (λ o. omega (arith, e, o.0)) in
      record {
        t = s.t;
        fine = sym (ap (λ r. r.answer.number) s.is) ∙ e;
        is_file = one_problem_one_file file s.t small s.is_read;
        is = s.is;
      }

-- what the writer wrote is read back, and is fine
pub file_read_fine : (t : Tables) (m : Rooms) → Fine t → too_small m t ≡ false
    → (read_result (file_of t) m ≡ standing_result examination t m) × ((read_result (file_of t) m).answer ≡ fine_told t)
unfolding read_result
file_read_fine t m f e =
    let is = read_stands examination (file_of t) m t (fine_written t f).1 e in
    (is, ap (λ r. r.answer) is ∙ fine_told_lem t f)

-- ---- the writer
-- where it says 0 and a length, so many bytes of the memory are a file, and reading that gives the tables
pub write_then_read : (t : Tables) (room : List ℕ) (n : ℕ) → write_answer t room ≡ told 0 (n ∷ [])
    → Fine t × (reading (take n (written_room t room)) ≡ read t)
write_then_read t room n e =
    let w = zero_written t room (ap (λ x. x.number) e) in
    let long : n ≡ length (file_of t) = ap (λ x. get_or x.values 0 0) (sym e ∙ w.left.says) in
    (w.fine, ap (λ k. reading (take k (written_room t room))) long ∙ ap reading w.first ∙ (fine_written t w.fine).1)

-- what was read and is fine is written as the bytes that it was read from
pub read_then_write : (file : List ℕ) (m : Rooms) (f : FineFile file m) (room : List ℕ) → too_short room file ≡ false
    → (write_answer f.t room ≡ told 0 (length file ∷ [])) × (written_room f.t room ≡ covering file room)
read_then_write file m f room e =
    let w = write_whole f.t room f.fine (ap (too_short room) f.is_file ∙ e) in
    (w.says ∙ ap (λ l. told 0 (length l ∷ [])) f.is_file, w.leaves ∙ ap (λ l. covering l room) f.is_file)

-- 26 exactly where the tables pass the examination and the memory is shorter than their file; its place is 0, and nothing is written
pub write_26_exactly : (t : Tables) (room : List ℕ) → ((write_answer t room).number ≡ 126) ↔ RoomShort t room
write_26_exactly t room = (short_of_26 t room, λ s. ap (λ w. w.number) (write_small t room s.fine s.short).says)

pub write_refuses_small : (t : Tables) (room : List ℕ) → RoomShort t room → Left t room (refused 26 0) room
write_refuses_small t room s = write_small t room s.fine s.short

-- ---- the desk's question
module _ (file given : List ℕ) (m : Rooms) where
  yes_fine : (t : Tables) → lawful_question t given ≡ told 0 [] → Fine t
  unfolding lawful_question
  yes_fine t e =
      examined (small_none (given_tests t given) (yes_or_no (some_broken t given)) (omega (arith, ap (λ w. w.number) e)))
    where
      examined : NoneApplies (given_tests t given) → Fine t
      examined (nor a (nor b (nor c (nor d (nor g (nor h rest)))))) = none_is_fine t (nor a (nor b (nor c (nor d (nor g (nor h none))))))

  -- 0 is said exactly there
  pub desk_yes_exactly : ((desk_result file given m).answer ≡ told 0 []) ↔ LawfulByFile file given m
  unfolding desk_result
  desk_yes_exactly = (there, back)
    where
      there : (desk_result file given m).answer ≡ told 0 [] → LawfulByFile file given m
      there e =
          let s = other_stands (λ t. lawful_question t given) file m (λ o. omega (arith, ap (λ w. w.number) e, o.0)) in
          let yes : lawful_question s.t given ≡ told 0 [] = sym (ap (λ r. r.answer) s.is) ∙ e in
          record { t = s.t; is_read = s.is_read; enough = s.enough; fine = yes_fine s.t yes; lawful = lawful_yes s.t given yes }

      back : LawfulByFile file given m → (desk_result file given m).answer ≡ told 0 []
      back l =
          ap (λ r. r.answer) (read_stands (λ t. lawful_question t given) file m l.t l.is_read l.enough)
          ∙ yes_lawful l.t given l.fine l.lawful

  pub desk_26_exactly : ((desk_result file given m).answer.number ≡ 126) ↔ TooSmall file m
  unfolding desk_result
  desk_26_exactly =
      (small_for_26 (λ t. lawful_question t given) file m (λ t. lawful_other t given), λ s. ap (λ r. r.answer.number) (small_26 (λ t. lawful_question t given) file m s))

  -- where the reader refuses, the desk is told the same
  pub desk_refuses_as_reader : 100 ≤ (read_result file m).answer.number → (desk_result file given m).answer ≡ (read_result file m).answer
  unfolding desk_result read_result
  desk_refuses_as_reader = refused_alike (λ t. lawful_question t given) examination (λ t. refused_first t given) (reading file) m

  pub desk_refused_untouched : OfFile (desk_result file given m).answer.number → Untouched m (desk_result file given m)
  unfolding desk_result
  desk_refused_untouched = of_file_untouched (λ t. lawful_question t given) file m (λ t. lawful_other t given)

  -- yes, no, and every refusal of the examination or of the plan leave the tables standing
  pub desk_leaves_standing : (OfFile (desk_result file given m).answer.number → ⊥) → Stands (λ t. lawful_question t given) file m (desk_result file given m)
  unfolding desk_result
  desk_leaves_standing = other_stands (λ t. lawful_question t given) file m

  -- the memory is left as the reader leaves it
  pub desk_as_reader : (desk_result file given m).rooms ≡ (read_result file m).rooms
  unfolding desk_result read_result
  desk_as_reader = as_asked (λ t. lawful_question t given) examination (reading file) m

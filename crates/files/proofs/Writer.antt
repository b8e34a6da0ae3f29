-- What the writer leaves: where the examination refuses, where the memory is too small, and where the file is written.
use mathlib.Core.Path.{◌≡◌, refl, ap, ◌∙◌}
use mathlib.Core.Logic.{⊎_elim}
use mathlib.Core.Bool.{Bool, true, false}
use mathlib.Core.List.{List, [], ◌∷◌}
use Prim.Native.Nat.{ℕ, ◌≤◌}
use native.Mathlib.Omega.{arith}
use borrow.Author.Tests.{ne_eqb}
use lib.Dec.{eqb}
use lib.ListN.{length, take, drop}
use lib.Seq.{take_at}
use Rattle.problem.specs.Tables.{Tables}
use Rattle.problem.specs.Replies.{Told, told, refused}
use Rattle.tables.specs.Tests.{Test, once, first_of}
use Rattle.tables.specs.Applies.{NoneApplies, none, nor, Gives, here}
use Rattle.tables.specs.Examination.{tests, Fine}
use Rattle.tables.proofs.Laws.{none_fine, gives_first, first_gives, gives_refused, gives_before, after_none, fine_none, none_is_fine}
use Rattle.files.specs.File.{file_of}
use Rattle.files.specs.Rooms.{too_short, covering}
use Rattle.files.specs.Writer.{write_tests, write_answer, file_or, written_room}
use Rattle.files.specs.Promises.{Left, RoomShort, FileWritten}
use Rattle.files.proofs.Numbers.{some_test, after_examination}

module _ (t : Tables) (room : List ℕ) where
  refusing : (w : Told) → 100 ≤ w.number → write_answer t room ≡ w → Left t room w room
  unfolding written_room
  refusing w l e = record { says = e; leaves = ap (λ b. file_or b t room) (ap (λ x. eqb x.number 0) e ∙ ne_eqb w.number 0 (omega arith)) }

  -- the examination's refusal
  pub write_examined : (w : Told) → Gives (tests t) w → Left t room w room
  unfolding write_answer
  write_examined w g = refusing w (gives_refused (tests t) w g) (gives_first (write_tests t room) _ w (gives_before (tests t) _ w g))

  module _ (f : Fine t) where
    last : write_answer t room ≡ first_of (once 26 (too_short room (file_of t)) ∷ []) (told 0 (length (file_of t) ∷ []))
    unfolding write_answer
    last = after_none (tests t) (once 26 (too_short room (file_of t)) ∷ []) _ (fine_none t f)

    -- 26
    pub write_small : too_short room (file_of t) ≡ true → Left t room (refused 26 0) room
    write_small e = refusing (refused 26 0) (omega arith) (last ∙ gives_first (once 26 (too_short room (file_of t)) ∷ []) _ (refused 26 0) (here 0 (omega arith) e (λ j l. absurd (omega arith))))

    -- the file
    pub write_whole : too_short room (file_of t) ≡ false → Left t room (told 0 (length (file_of t) ∷ [])) (covering (file_of t) room)
    unfolding written_room
    write_whole e =
        let said : write_answer t room ≡ told 0 (length (file_of t) ∷ []) = last ∙ none_fine (once 26 (too_short room (file_of t)) ∷ []) _ (nor (λ k l. e) none) in
        record { says = said; leaves = ap (λ b. file_or b t room) (ap (λ x. eqb x.number 0) said) }

  -- a refusal leaves the memory as it was
  pub write_refused : 100 ≤ (write_answer t room).number → written_room t room ≡ room
  write_refused l = (refusing (write_answer t room) l refl).leaves

  pub zero_written : (write_answer t room).number ≡ 0 → FileWritten t room
  zero_written e = ⊎_elim fine refused_first (first_gives (tests t) (told 0 []))
    where
      refused_first : Gives (tests t) (first_of (tests t) (told 0 [])) → FileWritten t room
      refused_first g = absurd (omega (arith, e, gives_refused (tests t) _ g, ap (λ w. w.number) (write_examined _ g).says))

      enough : Fine t → (b : Bool) → too_short room (file_of t) ≡ b → FileWritten t room
      enough f true q = absurd (omega (arith, e, ap (λ w. w.number) (write_small f q).says))
      enough f false q =
          let w = write_whole f q in
          record { fine = f; enough = q; left = w; first = ap (take (length (file_of t))) w.leaves ∙ take_at (file_of t) (drop (length (file_of t)) room) (length (file_of t)) refl }

      fine : NoneApplies (tests t) → FileWritten t room
      fine n = enough (none_is_fine t n) (too_short room (file_of t)) refl

  pub short_of_26 : (write_answer t room).number ≡ 126 → RoomShort t room
  short_of_26 e = ⊎_elim fine refused_first (first_gives (tests t) (told 0 []))
    where
      refused_first : Gives (tests t) (first_of (tests t) (told 0 [])) → RoomShort t room
      refused_first g =
          let said = ap (λ w. w.number) (write_examined _ g).says in
          absurd (omega (arith, some_test (after_examination t g (omega (arith, e, said)))))

      enough : Fine t → (b : Bool) → too_short room (file_of t) ≡ b → RoomShort t room
      enough f true q = record { fine = f; short = q }
      enough f false q = absurd (omega (arith, e, ap (λ w. w.number) (write_whole f q).says))

      fine : NoneApplies (tests t) → RoomShort t room
      fine n = enough (none_is_fine t n) (too_short room (file_of t)) refl

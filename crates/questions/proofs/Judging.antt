-- The questions about a given plan, as the code goes through them.
use mathlib.Core.Path.{◌≡◌, refl, sym, ap, ◌∙◌}
use mathlib.Core.Bool.{Bool, true, false, not}
use mathlib.Core.List.{List, [], ◌∷◌}
use Prim.Native.Nat.{ℕ, ◌<◌}
use native.Mathlib.Omega.{arith}
use borrow.Author.Tests.{leb-false, lt-ltb, le-ltb, eq-eqb, ne_eqb}
use lib.ListN.{length}
use Rattle.std.specs.Prelude.{Option, Some, None, Ok, Err, is_some}
use Rattle.problem.specs.Tables.{Tables, boats, listed}
use Rattle.problem.specs.Sane.{Sane}
use Rattle.problem.specs.Plans.{Plan}
use Rattle.problem.specs.Replies.{Told, refused, refusal_told}
use Rattle.problem.specs.declared.Refusal.{Refusal}
use Rattle.problem.proofs.Lowest.{none_lowest}
use Rattle.tables.specs.Tests.{Test, each, first_of}
use Rattle.tables.specs.Ways.{IsFirst}
use Rattle.tables.specs.Examination.{tests, fine_told, examination}
use Rattle.tables.proofs.Bools.{fails_not, passes_not}
use Rattle.tables.proofs.Examining.{applies, passes, once_applies, once_passes}
use Rattle.tables.proofs.Laws.{none_fine, gives_first, small_none, large_gives, after_none, gives_before, fine_none}
use Rattle.tables.proofs.Fine.{sane_fine}
use Rattle.questions.specs.Questions.{bad_slot, given_tests, broken, IsBroken, some_broken, yes_or_no, lawful_question, pair_or_none, broken_question}
use Rattle.questions.specs.Replies.{judged_told, broken_told}
use Rattle.questions.proofs.Laws.{plan_tests}

abbrev pub slot_test : Tables → List ℕ → Test
slot_test t given = each 11 (boats t) (bad_slot t.sizes given)

-- ---- the tables are fit, and the plan is looked at
module _ (t : Tables) (given : List ℕ) (sane : Sane t) where
  abbrev slots : List Test
  slots = slot_test t given ∷ []

  abbrev answer : Told
  answer = pair_or_none (some_broken t given) (broken t given)

  past_7 : first_of (plan_tests t given) answer ≡ broken_question t given
  unfolding broken_question
  past_7 = sym (after_none (tests t) (plan_tests t given) answer (fine_none t (sane_fine t sane)))

  pub judged_10 : (length given ≡ boats t → ⊥) → refused 10 0 ≡ broken_question t given
  judged_10 n = sym (once_applies 10 _ slots answer (fails_not _ (ne_eqb _ _ n))) ∙ past_7

  module _ (whole : length given ≡ boats t) where
    past_10 : first_of slots answer ≡ broken_question t given
    past_10 = sym (once_passes 10 _ slots answer (passes_not _ (eq-eqb _ _ whole))) ∙ past_7

    pub judged_11 : (why : Refusal) → IsFirst (Err why) (slot_test t given) → refusal_told why ≡ broken_question t given
    judged_11 why is = is.1 ∙ sym (applies (slot_test t given) [] answer is.0) ∙ past_10

    module _ (inside : IsFirst (Ok tt) (slot_test t given)) where
      past_11 : answer ≡ broken_question t given
      unfolding first_of
      past_11 = sym (passes (slot_test t given) [] answer inside) ∙ past_10

      pub planned : Plan t given
      planned = record {
        complete = whole;
        within = λ i l. leb-false _ _ (none_lowest (boats t) (bad_slot t.sizes given) inside i l);
      }

      pub judged_pair : (pair : Option ℕ) → IsBroken pair t given → broken_told (Ok pair) ≡ broken_question t given
      judged_pair (Some k) is =
          ap (pair_or_none true) is.1 ∙ ap (λ b. pair_or_none b (broken t given)) (sym (lt-ltb (broken t given) (listed t.pairs) (omega arith))) ∙ past_11
      judged_pair None is = ap (λ b. pair_or_none b (broken t given)) (sym (le-ltb (broken t given) (listed t.pairs) (omega arith))) ∙ past_11

-- ---- tables that are refused: the examination says it, and so does the question
pub refused_first : (t : Tables) (given : List ℕ) (why : Refusal) → refusal_told why ≡ examination t → refusal_told why ≡ broken_question t given
unfolding examination broken_question
refused_first t given why is =
    is
    ∙ sym
    (gives_first (given_tests t given) _ (examination t)
    (gives_before (tests t) _ (examination t) (large_gives (tests t) (fine_told t) (omega arith) (omega (arith, ap (λ x. x.number) is)))))

-- ---- whether the plan is lawful is read off its broken pair
small : (b : Bool) (k : ℕ) → (pair_or_none b k).number < 100
small true k = omega arith
small false k = omega arith

same : (a b : Bool) (j k : ℕ) → (pair_or_none a j).number ≡ (pair_or_none b k).number → a ≡ b
same true true j k e = refl
same true false j k e = absurd (omega arith)
same false true j k e = absurd (omega arith)
same false false j k e = refl

module _ (t : Tables) (given : List ℕ) where
  pub refused_alike : (why : Refusal) → refusal_told why ≡ broken_question t given → refusal_told why ≡ lawful_question t given
  unfolding broken_question lawful_question
  refused_alike why is =
      is
      ∙ sym
      (gives_first (given_tests t given) _ (broken_question t given)
      (large_gives (given_tests t given) (pair_or_none (some_broken t given) (broken t given)) (small (some_broken t given) _)
      (omega (arith, ap (λ x. x.number) is))))

  alike : (b : Bool) (k : ℕ) → pair_or_none b k ≡ broken_question t given → yes_or_no b ≡ lawful_question t given
  unfolding broken_question lawful_question
  alike b k is =
      let o = pair_or_none (some_broken t given) (broken t given) in
      let n = small_none (given_tests t given) o (omega (arith, small b k, ap (λ x. x.number) is)) in
      ap yes_or_no (same b (some_broken t given) k (broken t given) (ap (λ x. x.number) (is ∙ none_fine (given_tests t given) o n)))
      ∙ sym (none_fine (given_tests t given) (yes_or_no (some_broken t given)) n)

  pub answered_alike : (pair : Option ℕ) (lawful : Bool) → is_some pair ≡ not lawful → broken_told (Ok pair) ≡ broken_question t given
      → judged_told (Ok lawful) ≡ lawful_question t given
  answered_alike (Some k) true e is = cc
  answered_alike (Some k) false e is = alike true k is
  answered_alike None true e is = alike false 0 is
  answered_alike None false e is = cc

-- What the questions about a given plan answer.
use mathlib.Core.Path.{◌≡◌, refl, sym, ap, ◌∙◌}
use mathlib.Core.Bool.{Bool, true, false, not}
use mathlib.Core.List.{List, [], ◌∷◌, ◌++◌}
use Prim.Native.Nat.{ℕ}
use native.Mathlib.Nat.{le_of_eq}
use native.Mathlib.Omega.{arith}
use borrow.Author.Tests.{ltb-false, leb-false, eqb-true, not-false, le-ltb, lt-leb, eq-eqb}
use lib.Dec.{eqb}
use lib.ListN.{length}
use Rattle.problem.specs.Tables.{Tables, boats, listed}
use Rattle.problem.specs.Plans.{keeps, Lawful}
use Rattle.problem.specs.Replies.{Told, told}
use Rattle.problem.proofs.Lowest.{lowest_none, none_lowest}
use Rattle.problem.proofs.Places.{is_true, to_true}
use Rattle.tables.specs.Tests.{Test, once, each, first_of}
use Rattle.tables.specs.Applies.{NoneApplies, none, nor}
use Rattle.tables.specs.Examination.{tests, Fine}
use Rattle.tables.proofs.Bools.{passes_not}
use Rattle.tables.proofs.Laws.{none_fine, small_none, fine_none}
use Rattle.questions.specs.Questions.{bad_slot, given_tests, broken, some_broken, yes_or_no, lawful_question, pair_or_none, broken_question}

none_joined : {pre post : List Test} → NoneApplies pre → NoneApplies post → NoneApplies (pre ++ post)
none_joined none m = m
none_joined (nor f n) m = nor f (none_joined n m)

none_after : (pre : List Test) {post : List Test} → NoneApplies (pre ++ post) → NoneApplies post
none_after [] n = n
none_after (test ∷ pre) (nor f n) = none_after pre n

-- the tests of the plan alone
abbrev pub plan_tests : Tables → List ℕ → List Test
plan_tests t given = once 10 (not (eqb (length given) (boats t))) ∷ each 11 (boats t) (bad_slot t.sizes given) ∷ []

module _ (t : Tables) (given : List ℕ) where
  given_none : NoneApplies (tests t) → Lawful t given → NoneApplies (given_tests t given)
  given_none n w =
      none_joined n
      (nor (λ k l. passes_not _ (eq-eqb _ _ w.is_plan.complete)) (nor (λ i l. lt-leb _ _ (w.is_plan.within i l)) none))

  none_broken : Lawful t given → some_broken t given ≡ false
  unfolding broken
  none_broken w =
      le-ltb _ _
      (le_of_eq (sym (lowest_none (listed t.pairs) (λ k. not (keeps t given k)) (λ k l. passes_not _ (is_true (keeps t given k) (w.kept k l))))))

  given_lawful : NoneApplies (given_tests t given) → some_broken t given ≡ false → Lawful t given
  unfolding broken
  given_lawful n e = by (none_after (tests t) n)
    where
      by : NoneApplies (plan_tests t given) → Lawful t given
      by (nor length-right (nor slots-right none)) = record {
        is_plan = record {
          complete = eqb-true _ _ (not-false _ (length-right 0 (omega arith)));
          within = λ i l. leb-false _ _ (slots-right i l);
        };
        kept = λ k l.
            to_true (keeps t given k) (not-false _ (none_lowest (listed t.pairs) (λ j. not (keeps t given j)) (ltb-false _ _ e) k l));
      }

  -- a question that answers by whether some pair is broken, with number 0 only where none is
  module _ (answer : Bool → Told) where
    zero_lawful : ((answer true).number ≡ 0 → ⊥) → (first_of (given_tests t given) (answer (some_broken t given))).number ≡ 0 → Lawful t given
    zero_lawful some e =
        let n = small_none (given_tests t given) (answer (some_broken t given)) (omega arith) in
        given_lawful n (by (some_broken t given) (rw (none_fine (given_tests t given) (answer (some_broken t given)) n) at e))
      where
        by : (b : Bool) → (answer b).number ≡ 0 → b ≡ false
        by true e = absurd (some e)
        by false e = refl

    lawful_zero : Fine t → Lawful t given → first_of (given_tests t given) (answer (some_broken t given)) ≡ answer false
    lawful_zero f w = none_fine (given_tests t given) _ (given_none (fine_none t f) w) ∙ ap answer (none_broken w)

pub broken_none_lawful : (t : Tables) (given : List ℕ) → broken_question t given ≡ told 0 [] → Lawful t given
unfolding broken_question
broken_none_lawful t given e = zero_lawful t given (λ b. pair_or_none b (broken t given)) (omega arith) (ap (λ w. w.number) e)

pub lawful_broken_none : (t : Tables) (given : List ℕ) → Fine t → Lawful t given → broken_question t given ≡ told 0 []
unfolding broken_question
lawful_broken_none t given f w = lawful_zero t given (λ b. pair_or_none b (broken t given)) f w

pub lawful_yes : (t : Tables) (given : List ℕ) → lawful_question t given ≡ told 0 [] → Lawful t given
unfolding lawful_question
lawful_yes t given e = zero_lawful t given yes_or_no (omega arith) (ap (λ w. w.number) e)

pub yes_lawful : (t : Tables) (given : List ℕ) → Fine t → Lawful t given → lawful_question t given ≡ told 0 []
unfolding lawful_question
yes_lawful t given f w = lawful_zero t given yes_or_no f w

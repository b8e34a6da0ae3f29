-- The tests in turn: one that applies says its refusal, and one that does not hands on to the next.
use mathlib.Core.Path.{◌≡◌, sym, ap, ◌∙◌}
use mathlib.Core.Bool.{Bool, true, false}
use mathlib.Core.List.{List, [], ◌∷◌}
use Prim.Native.Nat.{ℕ, ◌≤◌, ◌<◌}
use native.Mathlib.Nat.{le_refl}
use native.Mathlib.Omega.{arith}
use borrow.Author.Tests.{lt-ltb, le-ltb, eq-eqb, ne_eqb}
use lib.ListN.{length}
use Rattle.problem.specs.Tables.{Tables, boats, listed, lower, higher, start}
use Rattle.problem.specs.Replies.{Told, refused, refusal_told}
use Rattle.problem.specs.declared.Refusal.{Refusal}
use Rattle.problem.proofs.Lowest.{lowest_here, lowest_none, none_lowest}
use Rattle.std.specs.Prelude.{Ok, Err}
use Rattle.tables.specs.Tests.{says, Test, once, each, each_way, found, first_of}
use Rattle.tables.specs.Applies.{Fails}
use Rattle.tables.specs.Examination.{too_many_boats, is_bad_size, bad_pair_bytes, first_way_bad, bad_row_words, bad_word, fine_told, examination}
use Rattle.tables.specs.Framed.{Framed}
use Rattle.tables.specs.Ways.{IsFirst}
use Rattle.tables.proofs.Bools.{fails_not, passes_not}
use Rattle.tables.proofs.Causes.{good_size, good_bytes}
use Rattle.tables.proofs.Ways.{good_pair}

-- ---- a list of tests
module _ (test : Test) (rest : List Test) (o : Told) where
  pub applies : found test < test.count → first_of (test ∷ rest) o ≡ says (test.at (found test))
  unfolding first_of
  applies l =
      ap (λ (b : Bool). elim b as (λ x. Told) [ true ↦ says (test.at (found test)) | false ↦ first_of rest o ])
      (lt-ltb (found test) test.count l)

  pub passes : test.count ≤ found test → first_of (test ∷ rest) o ≡ first_of rest o
  unfolding first_of
  passes l =
      ap (λ (b : Bool). elim b as (λ x. Told) [ true ↦ says (test.at (found test)) | false ↦ first_of rest o ])
      (le-ltb (found test) test.count l)

  pub fails_passes : Fails test → first_of (test ∷ rest) o ≡ first_of rest o
  fails_passes f = passes (omega (arith, lowest_none test.count (λ k. (test.at k).cause) f))

module _ (number : ℕ) (cause : Bool) (rest : List Test) (o : Told) where
  pub once_applies : cause ≡ true → first_of (once number cause ∷ rest) o ≡ refused number 0
  once_applies e =
      let q = lowest_here 1 (λ k. cause) 0 (omega arith) (λ j h. absurd (omega arith)) e in
      applies (once number cause) rest o (omega (arith, q))

  pub once_passes : cause ≡ false → first_of (once number cause ∷ rest) o ≡ first_of rest o
  once_passes e = fails_passes (once number cause) rest o (λ k h. e)

-- ---- the examination, test by test, as the code goes through them
abbrev pub size_test : Tables → Test
size_test t = each 3 (boats t) (is_bad_size t.sizes)

abbrev pub pair_test : Tables → Test
pair_test t = each_way (listed t.pairs) (first_way_bad (boats t) t.pairs)

abbrev pub word_test : Tables → Test
word_test t = each 7 (length t.rows) (bad_word t)

abbrev from7 : Tables → List Test
from7 t = word_test t ∷ []

abbrev from6 : Tables → List Test
from6 t = once 6 (bad_row_words t) ∷ from7 t

abbrev from51 : Tables → List Test
from51 t = pair_test t ∷ from6 t

abbrev from4 : Tables → List Test
from4 t = once 4 (bad_pair_bytes t.pairs) ∷ from51 t

abbrev from3 : Tables → List Test
from3 t = size_test t ∷ from4 t

module _ (t : Tables) where
  pub examined_2 : 64 < boats t → refused 2 0 ≡ examination t
  unfolding examination
  examined_2 l = sym (once_applies 2 (too_many_boats t) (from3 t) (fine_told t) (lt-ltb 64 (boats t) l))

  module _ (few : boats t ≤ 64) where
    past_2 : first_of (from3 t) (fine_told t) ≡ examination t
    unfolding examination
    past_2 = sym (once_passes 2 (too_many_boats t) (from3 t) (fine_told t) (le-ltb 64 (boats t) few))

    pub examined_3 : (why : Refusal) → IsFirst (Err why) (size_test t) → refusal_told why ≡ examination t
    examined_3 why is = is.1 ∙ sym (applies (size_test t) (from4 t) (fine_told t) is.0) ∙ past_2

    module _ (sized : IsFirst (Ok tt) (size_test t)) where
      past_3 : first_of (from4 t) (fine_told t) ≡ examination t
      past_3 = sym (passes (size_test t) (from4 t) (fine_told t) sized) ∙ past_2

      pub examined_4 : {odd : Bool} → odd ≡ bad_pair_bytes t.pairs → odd ≡ true → refused 4 0 ≡ examination t
      examined_4 is_odd e = sym (once_applies 4 (bad_pair_bytes t.pairs) (from51 t) (fine_told t) (sym is_odd ∙ e)) ∙ past_3

      module _ {odd : Bool} (is_odd : odd ≡ bad_pair_bytes t.pairs) (even : odd ≡ false) where
        past_4 : first_of (from51 t) (fine_told t) ≡ examination t
        past_4 = sym (once_passes 4 (bad_pair_bytes t.pairs) (from51 t) (fine_told t) (sym is_odd ∙ even)) ∙ past_3

        pub examined_51 : (why : Refusal) → IsFirst (Err why) (pair_test t) → refusal_told why ≡ examination t
        examined_51 why is = is.1 ∙ sym (applies (pair_test t) (from6 t) (fine_told t) is.0) ∙ past_4

        module _ (paired : IsFirst (Ok tt) (pair_test t)) where
          past_51 : first_of (from6 t) (fine_told t) ≡ examination t
          past_51 = sym (passes (pair_test t) (from6 t) (fine_told t) paired) ∙ past_4

          good : (k : ℕ) → k < listed t.pairs → (lower t.pairs k < boats t) × (higher t.pairs k < boats t)
          good k l =
              let q = good_pair (boats t) t.pairs k (none_lowest (listed t.pairs) (λ j. (first_way_bad (boats t) t.pairs j).cause) paired k l) in
              (omega arith, q.1)

          -- what the sum of the row words asks
          pub summable : (length t.pairs ≤ 4032)
              × ((listed t.pairs ≤ listed t.pairs) × ((k : ℕ) → k < listed t.pairs → lower t.pairs k < boats t))
          summable = ((good_bytes t.pairs (sym is_odd ∙ even)).1, (le_refl _, λ k l. (good k l).0))

          module _ {words : ℕ} (is-words : words ≡ start t.sizes t.pairs (listed t.pairs)) where
            pub examined_6 : (length t.rows ≡ words → ⊥) → refused 6 0 ≡ examination t
            examined_6 n =
                sym (once_applies 6 (bad_row_words t) (from7 t) (fine_told t) (fails_not _ (ne_eqb _ _ (λ e. n (e ∙ sym is-words))))) ∙ past_51

            module _ (whole : length t.rows ≡ words) where
              -- what the walk of the words asks
              pub framed : Framed t
              framed = record {
                few_slots = λ i l. (good_size t.sizes i (none_lowest (boats t) (is_bad_size t.sizes) sized i l)).1;
                lower_named = λ k l. (good k l).0;
                higher_named = λ k l. (good k l).1;
                row_words = whole ∙ is-words;
              }

              past_6 : first_of (from7 t) (fine_told t) ≡ examination t
              past_6 = sym (once_passes 6 (bad_row_words t) (from7 t) (fine_told t) (passes_not _ (eq-eqb _ _ (whole ∙ is-words)))) ∙ past_51

              pub examined_7 : (why : Refusal) → IsFirst (Err why) (word_test t) → refusal_told why ≡ examination t
              examined_7 why is = is.1 ∙ sym (applies (word_test t) [] (fine_told t) is.0) ∙ past_6

              pub examined_fine : IsFirst (Ok tt) (word_test t) → fine_told t ≡ examination t
              unfolding first_of
              examined_fine worded = sym (passes (word_test t) [] (fine_told t) worded) ∙ past_6

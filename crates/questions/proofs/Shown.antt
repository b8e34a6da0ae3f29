-- The part of the rows that is shown for two boats, and that it is within the rows.
use mathlib.Core.Path.{◌≡◌, refl, sym, ap, ap₂, ◌∙◌}
use mathlib.Core.Bool.{Bool, true, false, ◌&&◌}
use Prim.Native.Nat.{ℕ, suc, ◌+◌, ◌≤◌, ◌<◌}
use native.Mathlib.Omega.{arith}
use borrow.Author.Tests.{eqb-true, eq-eqb, ne_eqb}
use lib.Dec.{eqb}
use lib.ListN.{length}
use Rattle.std.specs.Prelude.{Some, None}
use Rattle.problem.specs.Tables.{Tables, boats, size, listed, place, IsPlace, is_listed, start}
use Rattle.problem.specs.Replies.{refusal_told}
use Rattle.problem.specs.declared.Refusal.{Refusal}
use Rattle.problem.proofs.Starts.{start_suc, start_mono}
use Rattle.problem.proofs.Places.{both_true, place_pair, listed_lt, lt_listed, unlisted_le, lower_named_lem}
use Rattle.tables.specs.Examination.{examination, fine_told, Fine}
use Rattle.tables.proofs.Fine.{fine_sane}
use Rattle.std.specs.declared.ops.Range.{Range}
use Rattle.questions.specs.Questions.{part_or_none, rows_shown}

-- the tables that the examination hands on are the ones that it was given, and fine
pub is_fine : {t given : Tables} → fine_told t ≡ examination given → t ≡ given → Fine t
is_fine is same = rw same (sym (ap (λ w. w.number) is))

module _ (t : Tables) (h i : ℕ) where
  abbrev shown_if : Bool → Range ℕ
  shown_if b =
      part_or_none b (start t.sizes t.pairs (place t.pairs h i)) (start t.sizes t.pairs (suc (place t.pairs h i)))

  -- tables that are refused show nothing
  pub shown_refused : (why : Refusal) → refusal_told why ≡ examination t → record { start = 0; end = 0 } ≡ rows_shown t h i
  unfolding rows_shown
  shown_refused why is =
      ap (λ b. shown_if (b && is_listed t.pairs h i))
      (sym (ne_eqb (examination t).number 0 (λ z. omega (arith, ap (λ x. x.number) is))))

  -- tables that are fine, and the place of the pair
  module _ (fine : Fine t) where
    flag_is : {b : Bool} → is_listed t.pairs h i ≡ b → (eqb (examination t).number 0 && is_listed t.pairs h i) ≡ b
    flag_is e = ap₂ ◌&&◌ (eq-eqb (examination t).number 0 fine) e

    pub shown_unlisted : IsPlace None t.pairs h i → record { start = 0; end = 0 } ≡ rows_shown t h i
    unfolding rows_shown
    shown_unlisted is = ap shown_if (sym (flag_is (unlisted_le t.pairs h i (omega arith))))

    module _ {pair : ℕ} (is : IsPlace (Some pair) t.pairs h i) where
      inside : place t.pairs h i < listed t.pairs
      inside = omega arith

      pub shown_named : h < boats t
      shown_named = omega (arith, lower_named_lem t (fine_sane t fine) (place t.pairs h i) inside, (place_pair t.pairs h i inside).0)

      module _ {from wide : ℕ} (f : from ≡ start t.sizes t.pairs pair) (w : wide ≡ size t.sizes h) where
        next : from + wide ≡ start t.sizes t.pairs (suc (place t.pairs h i))
        next =
            omega
            (arith, ap (start t.sizes t.pairs) is.1, start_suc t.sizes t.pairs (place t.pairs h i), ap (size t.sizes) (place_pair t.pairs h i inside).0)

        pub shown_within : from + wide ≤ length t.rows
        shown_within =
            let s = fine_sane t fine in
            omega (arith, next, start_mono t.sizes t.pairs (suc (place t.pairs h i)) (listed t.pairs) inside, s.row_words)

        pub shown_listed : record { start = from; end = from + wide } ≡ rows_shown t h i
        unfolding rows_shown
        shown_listed =
            ap₂ (part_or_none true) (f ∙ ap (start t.sizes t.pairs) is.1) next ∙ ap shown_if (sym (flag_is (lt_listed t.pairs h i inside)))

  -- what is shown is a part of the rows
  pub shown_inside : ((rows_shown t h i).start ≤ (rows_shown t h i).end) × ((rows_shown t h i).end ≤ length t.rows)
  unfolding rows_shown
  shown_inside = by (eqb (examination t).number 0 && is_listed t.pairs h i) refl
    where
      by : (b : Bool) → (eqb (examination t).number 0 && is_listed t.pairs h i) ≡ b
          → ((shown_if b).start ≤ (shown_if b).end) × ((shown_if b).end ≤ length t.rows)
      by true e =
          let q = both_true _ _ e in
          let s = fine_sane t (eqb-true (examination t).number 0 q.0) in
          omega (
            arith,
            start_suc t.sizes t.pairs (place t.pairs h i),
            start_mono t.sizes t.pairs (suc (place t.pairs h i)) (listed t.pairs) (listed_lt t.pairs h i q.1),
            s.row_words,
          )
      by false e = omega arith

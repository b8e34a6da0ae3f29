-- The examination says fine of exactly the tables that keep every rule.
use mathlib.Core.Path.{◌≡◌}
use native.Mathlib.Omega.{arith}
use borrow.Author.Tests.{ltb-false, eqb-true, not-false, le-ltb, eq-eqb}
use lib.ListN.{length}
use Rattle.problem.specs.Tables.{Tables, boats, listed, start}
use Rattle.problem.specs.Sane.{Sane}
use Rattle.tables.specs.Applies.{NoneApplies, none, nor}
use Rattle.tables.specs.Examination.{tests, fine_told, examination, Fine}
use Rattle.tables.proofs.Bools.{passes_not}
use Rattle.tables.proofs.Causes.{size_good, good_size, bytes_good, good_bytes}
use Rattle.tables.proofs.Ways.{way_good, good_pair, above_rising, rising_above}
use Rattle.tables.proofs.Words.{rows_good, good_rows}
use Rattle.tables.proofs.Laws.{none_fine, fine_none, none_is_fine}

none_sane : (t : Tables) → NoneApplies (tests t) → Sane t
none_sane t (nor few (nor sized (nor even (nor paired (nor summed (nor narrow none)))))) =
    let bytes = good_bytes t.pairs (even 0 (omega arith)) in
    let words : length t.rows ≡ start t.sizes t.pairs (listed t.pairs) = eqb-true _ _ (not-false _ (summed 0 (omega arith))) in
    record {
      few_boats = ltb-false 64 (boats t) (few 0 (omega arith));
      some_slots = λ i l. (good_size t.sizes i (sized i l)).0;
      few_slots = λ i l. (good_size t.sizes i (sized i l)).1;
      two_bytes = bytes.0;
      few_pairs = omega arith;
      lower_first = λ k l. (good_pair (boats t) t.pairs k (paired k l)).0;
      boats_named = λ k l. (good_pair (boats t) t.pairs k (paired k l)).1;
      rising = above_rising t.pairs (λ k l. (good_pair (boats t) t.pairs k (paired k l)).2);
      row_words = words;
      row_bits = good_rows t words narrow;
    }

pub fine_sane : (t : Tables) → Fine t → Sane t
fine_sane t f = none_sane t (fine_none t f)

pub sane_fine : (t : Tables) → Sane t → Fine t
sane_fine t s =
    none_is_fine t
    (nor (λ k l. le-ltb 64 (boats t) s.few_boats)
    (nor (λ i l. size_good t.sizes i (λ e. omega (arith, s.some_slots i l)) (s.few_slots i l))
    (nor (λ k l. bytes_good t.pairs s.two_bytes s.few_pairs)
    (nor (λ k l. way_good (boats t) t.pairs k (s.lower_first k l) (s.boats_named k l) (rising_above t.pairs s.rising k l))
    (nor (λ k l. passes_not _ (eq-eqb _ _ s.row_words))
    (nor (rows_good t s.row_words s.row_bits)
    none))))))

pub fine_told_lem : (t : Tables) → Fine t → examination t ≡ fine_told t
unfolding examination
fine_told_lem t f = none_fine (tests t) _ (fine_none t f)

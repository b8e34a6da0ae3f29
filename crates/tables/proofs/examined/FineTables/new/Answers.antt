-- Each return gives the refusal of the first test that applies: the tests before it were passed.
use mathlib.Core.Path.{refl, sym, ap, ◌∙◌}
use Prim.Native.Nat.{◌≤◌}
use borrow.Author.Tests.{ltb-true, ltb-false}
use Rattle.std.proofs.lemmas.Result.{err_from_is_err_and}
use Rattle.problem.specs.Tables.{Tables, tables, boats}
use Rattle.tables.proofs.Examining.{examined_2, examined_3, examined_4, examined_51, examined_6, examined_7, examined_fine, summable, framed}
use Rattle.tables.proofs.Fine.{fine_sane}
use Rattle.tables.proofs.examined.FineTables.new.Goals as goal

pub returns-then-too_many_boats-clause-told : goal.returns-then-too_many_boats-clause-told
returns-then-too_many_boats-clause-told c = examined_2 _ (ltb-true 64 _ (sym c.too_many_boats.ensures ∙ c.if-too_many_boats.true))

pub returns-in_err-all_good-clause-told : goal.returns-in_err-all_good-clause-told
returns-in_err-all_good-clause-told c =
    let few = ltb-false 64 _ (sym c.too_many_boats.ensures ∙ c.if-too_many_boats.false) in
    let p = err_from_is_err_and c.from_residual.result c.from_residual.ensures.1 in
    rw (p.1, p.2) (examined_3 _ few _ c.in_err-all_good.ensures)

pub returns-then-bad_pair_bytes-clause-told : goal.returns-then-bad_pair_bytes-clause-told
returns-then-bad_pair_bytes-clause-told c =
    let few = ltb-false 64 _ (sym c.too_many_boats.ensures ∙ c.if-too_many_boats.false) in
    examined_4 _ few c.in_ok-all_good.ensures c.bad_pair_bytes.ensures c.if-bad_pair_bytes.true

pub returns-in_err-all_good-2-clause-told : goal.returns-in_err-all_good-2-clause-told
returns-in_err-all_good-2-clause-told c =
    let few = ltb-false 64 _ (sym c.too_many_boats.ensures ∙ c.if-too_many_boats.false) in
    let p = err_from_is_err_and c.from_residual-in_err-all_good-2.result c.from_residual-in_err-all_good-2.ensures.1 in
    rw (p.1, p.2) (examined_51 _ few c.in_ok-all_good.ensures c.bad_pair_bytes.ensures c.if-bad_pair_bytes.false _ c.in_err-all_good-2.ensures)

pub start_of-requires : goal.start_of-requires
start_of-requires c =
    let T : Tables = let a = c.args in tables a.sizes.now a.pairs.now a.rows.now in
    let few : boats T ≤ 64 =
    ltb-false 64 _ (sym c.too_many_boats.ensures ∙ c.if-too_many_boats.false) in
    let s = summable T few c.in_ok-all_good.ensures c.bad_pair_bytes.ensures c.if-bad_pair_bytes.false c.in_ok-all_good-2.ensures in
    record { pairs_len_bound = s.0; pair_bound = s.1.0; by_index = s.1.1 }

pub returns-then-rows-start_of-clause-told : goal.returns-then-rows-start_of-clause-told
returns-then-rows-start_of-clause-told c =
    let few = ltb-false 64 _ (sym c.too_many_boats.ensures ∙ c.if-too_many_boats.false) in
    examined_6 _ few c.in_ok-all_good.ensures c.bad_pair_bytes.ensures c.if-bad_pair_bytes.false c.in_ok-all_good-2.ensures
    c.start_of.ensures.0 c.if-rows-start_of.true

pub all_good-requires-3 : goal.all_good-requires-3
all_good-requires-3 c =
    let few = ltb-false 64 _ (sym c.too_many_boats.ensures ∙ c.if-too_many_boats.false) in (
      refl,
      framed _ few c.in_ok-all_good.ensures c.bad_pair_bytes.ensures c.if-bad_pair_bytes.false c.in_ok-all_good-2.ensures
          c.start_of.ensures.0 c.if-rows-start_of.false,
    )

pub returns-in_err-all_good-3-clause-told : goal.returns-in_err-all_good-3-clause-told
returns-in_err-all_good-3-clause-told c =
    let few = ltb-false 64 _ (sym c.too_many_boats.ensures ∙ c.if-too_many_boats.false) in
    let p = err_from_is_err_and c.from_residual-in_err-all_good-3.result c.from_residual-in_err-all_good-3.ensures.1 in
    rw (p.1, p.2) (examined_7 _ few c.in_ok-all_good.ensures c.bad_pair_bytes.ensures c.if-bad_pair_bytes.false c.in_ok-all_good-2.ensures
    c.start_of.ensures.0 c.if-rows-start_of.false _ c.in_err-all_good-3.ensures)

pub returns-clause-told : goal.returns-clause-told
returns-clause-told c =
    let few = ltb-false 64 _ (sym c.too_many_boats.ensures ∙ c.if-too_many_boats.false) in
    examined_fine _ few c.in_ok-all_good.ensures c.bad_pair_bytes.ensures c.if-bad_pair_bytes.false c.in_ok-all_good-2.ensures
    c.start_of.ensures.0 c.if-rows-start_of.false c.in_ok-all_good-3.ensures

-- no test applied: the tables keep every rule
pub invariant_of-result : goal.invariant_of-result
invariant_of-result c =
    let T : Tables = let a = c.args in tables a.sizes.now a.pairs.now a.rows.now in
    let few : boats T ≤ 64 =
    ltb-false 64 _ (sym c.too_many_boats.ensures ∙ c.if-too_many_boats.false) in
    fine_sane T
    (ap (λ w. w.number)
    (sym (examined_fine T few c.in_ok-all_good.ensures c.bad_pair_bytes.ensures c.if-bad_pair_bytes.false c.in_ok-all_good-2.ensures
    c.start_of.ensures.0 c.if-rows-start_of.false c.in_ok-all_good-3.ensures)))

-- The examination says whether the tables are fine, and the place of the pair whether it is listed.
use mathlib.Core.Path.{ap}
use native.Mathlib.Omega.{arith}
use lib.ListN.{length}
use Rattle.problem.specs.Tables.{Tables}
use Rattle.questions.proofs.Shown.{is_fine, shown_refused, shown_unlisted, shown_named, shown_within, shown_listed}
use Rattle.questions.proofs.place_of_rows.Goals as goal

pub returns-in_default : goal.returns-in_default
returns-in_default c = shown_refused _ _ _ _ c.in_default.ensures.told

pub returns-in_default-place : goal.returns-in_default-place
returns-in_default-place c =
    let fine = is_fine c.in-Ok.ensures.told c.in-Ok.ensures.same in
    rw (← c.in-Ok.ensures.same) (shown_unlisted _ _ _ fine c.in_default-place.ensures)

pub size-requires : goal.size-requires
size-requires c = shown_named _ _ _ (is_fine c.in-Ok.ensures.told c.in-Ok.ensures.same) c.in-Some.ensures

pub overflow_add-to : goal.overflow_add-to
overflow_add-to c =
    let fine = is_fine c.in-Ok.ensures.told c.in-Ok.ensures.same in
    omega (arith, ap (λ (t : Tables). length t.rows) c.in-Ok.ensures.same, shown_within _ _ _ fine c.in-Some.ensures c.start-from.ensures c.size.ensures.value)

pub returns : goal.returns
returns c =
    let fine = is_fine c.in-Ok.ensures.told c.in-Ok.ensures.same in
    rw (← c.in-Ok.ensures.same) (shown_listed _ _ _ fine c.in-Some.ensures c.start-from.ensures c.size.ensures.value)

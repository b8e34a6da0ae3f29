-- Every pair passed is good.
use native.Mathlib.Omega.{arith}
use Rattle.std.proofs.lemmas.Result.{err_from_is_err_and}
use Rattle.problem.specs.Tables.{listed}
use Rattle.tables.specs.Tests.{Test, each_way}
use Rattle.tables.specs.Examination.{first_way_bad}
use Rattle.tables.proofs.Ways.{way_first, way_nowhere}
use Rattle.tables.proofs.pairs.all_good.Goals as goal

pub returns-in_err-good_way : goal.returns-in_err-good_way
returns-in_err-good_way c =
    let a = c.args in
    let pairs : Test = each_way (listed a.pairs.now) (first_way_bad a.boats a.pairs.now) in
    let p = err_from_is_err_and c.from_residual.result c.from_residual.ensures.1 in
    rw (p.1, p.2) (way_first pairs c.loop-k-test.true c.loop-k.invariant c.in_err-good_way.field-0.0 c.in_err-good_way.ensures)

pub returns : goal.returns
returns c =
    let a = c.args in
    let pairs : Test = each_way (listed a.pairs.now) (first_way_bad a.boats a.pairs.now) in
    way_nowhere pairs (λ j h. c.loop-k.invariant j (omega arith))

-- The code's tests are those of the definition, in its order.
use mathlib.Core.Path.{sym, ◌∙◌}
use native.Mathlib.Omega.{arith}
use Rattle.tables.proofs.Ways.{way_51_lower, way_51_higher, way_52, way_53, way_54, way_good}
use Rattle.tables.proofs.pairs.good_way.Goals as goal

pub returns-then-boats-low : goal.returns-then-boats-low
returns-then-boats-low c =
    let a = c.args in
    way_51_lower a.boats a.pairs.now a.pair (omega arith)

pub returns-then-boats-high : goal.returns-then-boats-high
returns-then-boats-high c =
    let a = c.args in
    way_51_higher a.boats a.pairs.now a.pair (omega arith) (omega arith)

pub returns-then-low-high : goal.returns-then-low-high
returns-then-low-high c =
    let a = c.args in
    way_52 a.boats a.pairs.now a.pair (omega arith) (omega arith) (omega arith)

pub returns-then-high-low : goal.returns-then-high-low
returns-then-high-low c =
    let a = c.args in
    way_53 a.boats a.pairs.now a.pair (omega arith) (omega arith) (λ e. omega arith) (omega arith)

pub returns-then-is_not_rising : goal.returns-then-is_not_rising
returns-then-is_not_rising c =
    let f = c in
    let a = f.args in
    way_54 a.boats a.pairs.now a.pair (omega (arith, f.if-low-high.false)) (omega arith)
    (sym c.is_not_rising.ensures ∙ c.if-is_not_rising.true)

pub returns : goal.returns
returns c =
    let f = c in
    let a = f.args in
    way_good a.boats a.pairs.now a.pair (omega (arith, f.if-low-high.false)) (omega arith)
    (sym c.is_not_rising.ensures ∙ c.if-is_not_rising.false)

-- No word passed is wide.
use mathlib.Core.Path.{sym, ◌∙◌}
use Prim.Native.Nat.{◌-◌}
use native.Mathlib.Omega.{arith}
use Rattle.problem.proofs.Lowest.{lowest_from_at}
use Rattle.tables.proofs.rows.first_wide_word.Goals as goal

pub returns-then-is_wide : goal.returns-then-is_wide
returns-then-is_wide c =
    let a = c.args in
    let l = c.loop-w in (
      omega (arith, c.loop-w-test.true),
      sym (lowest_from_at _ a.from (a.to - a.from) l.w
          (record {
            from = l.auto.w;
            upto = omega (arith, c.loop-w-test.true);
            fails = λ j h i. l.invariant j i h;
            passes = λ h. sym c.is_wide.ensures ∙ c.if-is_wide.true;
          })),
    )

pub returns : goal.returns
returns c =
    let a = c.args in
    let l = c.loop-w in
    lowest_from_at _ a.from (a.to - a.from) _
    (record {
      from = omega arith;
      upto = omega arith;
      fails = λ j h i. l.invariant j (omega (arith, c.loop-w-test.false, c.requires.from_le_to)) h;
      passes = λ h. absurd (omega arith);
    })

-- The b words of boat i and of the later ones, up to the first that is low enough.
use Rattle.std.proofs.Common.{◌≡◌, subst, ℕ, arith}
use lib.ListN.{set}
use Rattle.words.specs.Places.{low_at}
use Rattle.marks.proofs.Lowering.{Lowering, lowering_ends, lowering_all}
use Rattle.marks.proofs.lower.Goals as goal

pub returns-then-work-j-clause-work_after : goal.returns-then-work-j-clause-work_after
returns-then-work-j-clause-work_after c =
    let a = c.args in
    let p = c.requires in
    let y = lowering_ends _ _ _ _ a.work.now _ (omega arith) (omega arith) p.i_lt_n.1 p.zero.1 c.loop-j.invariant c.if-work-j.true in
    lowering_all a.n a.i a.h _ _ p.i_lt_n.0 y p.i_lt_n.1 (omega arith) p.zero.0

pub returns-clause-work_after : goal.returns-clause-work_after
returns-clause-work_after c =
    let a = c.args in
    let p = c.requires in
    let e : c.loop-j.j ≡ a.n = omega arith in
    let y = subst (λ (j : ℕ). Lowering a.i a.h j (set a.work.now (low_at a.i) a.h) c.loop-j.work) e c.loop-j.invariant in
    lowering_all a.n a.i a.h _ _ p.i_lt_n.0 y p.i_lt_n.1 (omega arith) p.zero.0

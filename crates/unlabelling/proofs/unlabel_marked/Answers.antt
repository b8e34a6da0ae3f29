-- Back by one boat, with the b words lowered.
use Rattle.std.proofs.Common.{◌≡◌, sym, ◌∙◌, ◌-◌, arith}
use Rattle.unlabelling.proofs.Backwards.{stepped, stepped_none, marked_none, marked_back}
use Rattle.unlabelling.proofs.unlabel_marked.Goals as goal

pub returns-in_err-h : goal.returns-in_err-h
returns-in_err-h c = rw c.from_residual.ensures (marked_none c.requires.leaving (stepped_none c.args.i (sym c.step_back.ensures ∙ c.in_err-h.was)))

pub returns : goal.returns
returns c =
    let e = stepped c.args.i (sym c.step_back.ensures ∙ c.in_ok-h.was) in
    let h_is : c.in_ok-h.h ≡ c.args.i - 1 = omega arith in
    rw h_is (marked_back c.requires.leaving c.requires.kept (λ z. omega arith) (rw h_is at c.lower.ensures.work_after)
    (rw c.boats.ensures.value at c.lower.ensures.changed_only))

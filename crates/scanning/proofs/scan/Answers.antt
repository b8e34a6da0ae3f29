-- The SZ comes first; the rest is the pass from the first mark after it.
use mathlib.Core.Path.{sym, ap, ◌∙◌}
use native.Mathlib.Omega.{arith}
use Rattle.scanning.specs.Replies.{reading_told}
use Rattle.scanning.proofs.Meeting.{fault_told, no_first_mark, no_sizes_mark, no_number, no_sizes, sizes_met}
use Rattle.scanning.proofs.scan.Goals as goal

pub returns-in_err-reach : goal.returns-in_err-reach
returns-in_err-reach c =
    let cut = c.in_err-reach.ensures in
    fault_told _ c.from_residual.ensures.1 cut.1 ∙ sym (no_first_mark _ (omega arith))

pub returns-then-not-is_mark : goal.returns-then-not-is_mark
returns-then-not-is_mark c = sym (no_sizes_mark _ c.in_ok-reach.ensures (sym c.is_mark.ensures ∙ c.if-not-is_mark.true))

pub returns-in_err-reach-2 : goal.returns-in_err-reach-2
returns-in_err-reach-2 c =
    let cut = c.in_err-reach-2.ensures in
    fault_told _ c.from_residual-in_err-reach-2.ensures.1 cut.1
    ∙ sym (no_number _ c.in_ok-reach.ensures (sym c.is_mark.ensures ∙ c.if-not-is_mark.false) (omega arith))

pub returns-in_err-reach-3 : goal.returns-in_err-reach-3
returns-in_err-reach-3 c =
    let cut = c.in_err-reach-3.ensures in
    fault_told _ c.from_residual-in_err-reach-3.ensures.1 cut.1
    ∙ sym (no_sizes _ c.in_ok-reach.ensures (sym c.is_mark.ensures ∙ c.if-not-is_mark.false) c.in_ok-reach-2.ensures _ c.from-boats.ensures (omega arith))

pub returns : goal.returns
returns c =
    c.scan_pairs.ensures
    ∙ sym (ap reading_told (sizes_met _ c.in_ok-reach.ensures (sym c.is_mark.ensures ∙ c.if-not-is_mark.false) c.in_ok-reach-2.ensures _ c.from-boats.ensures c.in_ok-reach-3.ensures))

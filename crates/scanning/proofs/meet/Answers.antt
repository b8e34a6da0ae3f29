-- Each return says what the bytes at hand are, by the tests before it.
use mathlib.Core.Path.{sym, ap₂, ◌∙◌}
use native.Mathlib.Omega.{arith}
use Prim.Native.Nat.{◌+◌, ◌*◌}
use Rattle.scanning.proofs.Meeting.{fault_met, no_mark, unknown, no_lower, no_boat, no_words, pair_met, no_count, wrong_count, more_bytes, end_met}
use Rattle.scanning.proofs.meet.Goals as goal

pub returns-in_err-reach : goal.returns-in_err-reach
returns-in_err-reach c =
    let q = c.requires in
    let cut = c.in_err-reach.ensures in
    fault_met _ _ _ _ _ c.from_residual.ensures.1 cut.1 (λ words t s. no_mark _ _ _ q.at_in_bounds q.boats_bound (omega arith) t)

pub returns-in_err-reach-2 : goal.returns-in_err-reach-2
returns-in_err-reach-2 c =
    let q = c.requires in
    let cut = c.in_err-reach-2.ensures in
    fault_met _ _ _ _ _ c.from_residual-in_err-reach-2.ensures.1 cut.1 (λ words t s.
    no_lower _ _ _ q.at_in_bounds q.boats_bound c.in_ok-reach.ensures (sym c.is_mark.ensures ∙ c.if-is_mark.true) (omega arith) t)

pub returns-then-boats-lower : goal.returns-then-boats-lower
returns-then-boats-lower c words t s =
    let q = c.requires in
    no_boat _ _ _ q.at_in_bounds q.boats_bound c.in_ok-reach.ensures (sym c.is_mark.ensures ∙ c.if-is_mark.true) c.in_ok-reach-2.ensures _ words t s
    _ c.from-lower.ensures (omega arith)

pub returns-in_err-reach-3 : goal.returns-in_err-reach-3
returns-in_err-reach-3 c =
    let q = c.requires in
    let cut = c.in_err-reach-3.ensures in
    fault_met _ _ _ _ _ c.from_residual-in_err-reach-3.ensures.1 cut.1 (λ words t s.
    no_words _ _ _ q.at_in_bounds q.boats_bound c.in_ok-reach.ensures (sym c.is_mark.ensures ∙ c.if-is_mark.true) c.in_ok-reach-2.ensures _ words t s
    _ c.from-lower.ensures (omega arith) _ c.from-slots.ensures (omega (arith, cut.0)))

pub returns-then-is_mark : goal.returns-then-is_mark
returns-then-is_mark c =
    let q = c.requires in
    record {
      inside = omega (arith, c.in_ok-reach-3.ensures);
      goes_on = λ words t s.
          pair_met _ _ _ q.at_in_bounds q.boats_bound c.in_ok-reach.ensures (sym c.is_mark.ensures ∙ c.if-is_mark.true) c.in_ok-reach-2.ensures _ words t s
          _ c.from-lower.ensures (omega arith) _ c.from-slots.ensures (omega (arith, c.in_ok-reach-3.ensures));
    }

pub returns-then-not-is_mark : goal.returns-then-not-is_mark
returns-then-not-is_mark c words t s =
    let q = c.requires in
    unknown _ _ _ q.at_in_bounds q.boats_bound c.in_ok-reach.ensures (sym c.is_mark.ensures ∙ c.if-is_mark.false) (sym c.is_mark-2.ensures ∙ c.if-not-is_mark.true) t

pub returns-in_err-reach-4 : goal.returns-in_err-reach-4
returns-in_err-reach-4 c =
    let q = c.requires in
    let cut = c.in_err-reach-4.ensures in
    fault_met _ _ _ _ _ c.from_residual-in_err-reach-4.ensures.1 cut.1 (λ words t s.
    no_count _ _ _ q.at_in_bounds q.boats_bound c.in_ok-reach.ensures (sym c.is_mark.ensures ∙ c.if-is_mark.false) (sym c.is_mark-2.ensures ∙ c.if-not-is_mark.false) (omega arith) t)

pub returns-then-from-pairs : goal.returns-then-from-pairs
returns-then-from-pairs c words t s =
    let q = c.requires in
    wrong_count _ _ _ q.at_in_bounds q.boats_bound c.in_ok-reach.ensures (sym c.is_mark.ensures ∙ c.if-is_mark.false) (sym c.is_mark-2.ensures ∙ c.if-not-is_mark.false)
    c.in_ok-reach-4.ensures _ words t s _ (ap₂ (λ low high. low + 256 * high) c.from.ensures c.from-2.ensures) c.if-from-pairs.true

pub returns-then-at-file : goal.returns-then-at-file
returns-then-at-file c words t s =
    let q = c.requires in
    more_bytes _ _ _ q.at_in_bounds q.boats_bound c.in_ok-reach.ensures (sym c.is_mark.ensures ∙ c.if-is_mark.false) (sym c.is_mark-2.ensures ∙ c.if-not-is_mark.false)
    c.in_ok-reach-4.ensures _ words t s _ (ap₂ (λ low high. low + 256 * high) c.from.ensures c.from-2.ensures) c.if-from-pairs.false (omega arith)

pub returns : goal.returns
returns c words t s =
    let q = c.requires in
    end_met _ _ _ q.at_in_bounds q.boats_bound c.in_ok-reach.ensures (sym c.is_mark.ensures ∙ c.if-is_mark.false) (sym c.is_mark-2.ensures ∙ c.if-not-is_mark.false)
    c.in_ok-reach-4.ensures _ words t s _ (ap₂ (λ low high. low + 256 * high) c.from.ensures c.from-2.ensures) c.if-from-pairs.false (omega arith)

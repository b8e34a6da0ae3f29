-- A visit that goes by the marks: its slots are given up one after the other, by the mark or by the looks from b on.
use mathlib.Core.Path.{◌≡◌, sym, ◌∙◌}
use mathlib.Core.List.{List}
use mathlib.Core.Option.{none, some}
use Rattle.std.specs.Prelude.{Option, Some, None}
use Prim.Native.Nat.{ℕ, ◌+◌, ◌-◌, ◌≤◌, ◌<◌}
use native.Mathlib.Numerals.{sub-one}
use native.Mathlib.Omega.{arith}
use lib.ListN.{length, get_or}
use Rattle.problem.specs.Tables.{Tables, is_listed, bit}
use Rattle.problem.specs.declared.Allowance.TheVariants.{Checks}
use Rattle.events.specs.declared.Counts.{Counts}
use Rattle.events.specs.Counts.{Makes, StopsIn}
use Rattle.methods.specs.Choices.{may_stand}
use Rattle.words.specs.Places.{index, tri, marks}
use Rattle.words.specs.Layout.{word, index_of}
use Rattle.words.proofs.Triangle.{tri_small}
use Rattle.visits.specs.declared.Look.{Look}
use Rattle.visits.specs.declared.Look.TheVariants.{Forbidden, OutOfChecks}
use Rattle.visits.proofs.Looking.{Looking, look_of, looks_begin, looks_end, looks_allowed, looks_forbidden, looks_out, looks_made_few}
use Rattle.marks.specs.Kept.{KeptMarked}
use Rattle.marking.specs.Looks.{looked_at}
use Rattle.marking.proofs.Indices.{index_at, index_row, looked_as}
use Rattle.marking.proofs.Visits.{looks_from, AtSlot, few, come_first, spent, still_room, still_placed, still_indexed, tried, skips, no_trial, no_check, passes, refuses}
use Rattle.marking.proofs.visit.Goals as goal
use Rattle.marking.proofs.visit.Goals.{In-loop-slot, then-loop-h-test+in-Forbidden, else-loop-h-test, then-low-work+in-Some-failing, else-low-work}

-- what the looks of slot b come to, from boat `low` on: every boat is passed, or boat h fails
abbrev AllLooks : Tables → (w : List ℕ) → (i b low : ℕ) → (begun k : Counts) → Option ℕ → Type 0
AllLooks t w i b low begun k None = ((looks_from t w i b low).failing ≡ none) × Makes begun (looks_from t w i b low).checks k
AllLooks t w i b low begun k (Some h) = ((looks_from t w i b low).failing ≡ some h) × Makes begun (looks_from t w i b low).checks k

-- ---- the boat has slot b, and the words are w
module _ {t : Tables} {v : List ℕ} {i a : ℕ} {m : Counts} {w : List ℕ} {b : ℕ} {k : Counts} (x : AtSlot t v i a m w b k) where
  short : i ≤ length w
  short = omega (arith, few x.stands, still_room x)

  -- boat h is left: its index word, and the slot that it holds
  module _ (kept : KeptMarked t v i) {row : ℕ} (begins : row ≡ index + tri i) (h : ℕ) (below : h < i) where
    abbrev found : ℕ
    found = word w (row + h)

    index_inside : row + h < marks
    index_inside = omega (arith, begins, tri_small i (few x.stands), few x.stands)

    indexed : found ≡ index_of t h i
    indexed = index_at t h i w row (still_indexed x kept.indexed) begins below x.stands.boat

    row_inside : 0 < found → found - 1 + word w h < length t.rows
    row_inside = index_row t h i (word w h) found indexed x.stands.sane (still_placed x kept.placed h below)

    -- a look at it
    module _ (r : Look) (n : Counts) (e : r ≡ looked_at found (bit (get_or t.rows (found - 1 + word w h) 0) b) n) where
      seen : r ≡ look_of (is_listed t.pairs h i) (may_stand t h (word w h) i b) n
      seen = looked_as t h i (word w h) found indexed b n e

      one_fails : (low : ℕ) {begun : Counts} → Looking t w i b (looks_from t w i b low) begun h n → (l : Counts) → r ≡ Forbidden l → AllLooks t w i b low begun l (Some h)
      one_fails low looking l f = looks_forbidden short looking below r l seen f

      out_there : (low : ℕ) {begun : Counts} → Looking t w i b (looks_from t w i b low) begun h n → r ≡ OutOfChecks →
          StopsIn begun (looks_from t w i b low).checks Checks (n.checks - begun.checks) n
      out_there low looking f = looks_out short looking below (sym seen ∙ f)

-- a turn of the loop over slots
at_slot : (c : In-loop-slot) → AtSlot c.args.tables.now c.args.work.now c.args.i c.args.from c.args.start c.loop-slot.work c.loop-slot.slot c.loop-slot.counts
at_slot c =
    record { stands = c.requires.standing; come = c.loop-slot.invariant; has = omega (arith, c.size-size.ensures.value, c.loop-slot-test.true) }

pub loop-slot-init : goal.loop-slot-init
loop-slot-init c = come_first c.requires.standing _

pub returns-in_default-clause-visits_marked : goal.returns-in_default-clause-visits_marked
returns-in_default-clause-visits_marked c =
    no_trial (at_slot (goal.at.returns-in_default-clause-visits_marked c).In-loop-slot) _ c.trial.ensures c.in_default.is

pub loop-h-init : goal.loop-h-init
loop-h-init c = looks_begin _ _ _ _ _ _ (tried (at_slot (goal.at.loop-h-init c).In-loop-slot) _ _ c.trial.ensures c.in-Some.is).fits

pub overflow_add-row : goal.overflow_add-row
overflow_add-row c =
    omega (arith, index_inside (at_slot (goal.at.overflow_add-row c).In-loop-slot) c.requires.kept_marked c.row_at-row.ensures c.loop-h.h c.loop-h-test.true)

pub offset_bounds-work-row : goal.offset_bounds-work-row
offset_bounds-work-row c =
    omega (arith, index_inside (at_slot (goal.at.offset_bounds-work-row c).In-loop-slot) c.requires.kept_marked c.row_at-row.ensures c.loop-h.h c.loop-h-test.true)

pub bounds-work-row : goal.bounds-work-row
bounds-work-row c =
    let x = at_slot (goal.at.bounds-work-row c).In-loop-slot in
    omega (arith, index_inside x c.requires.kept_marked c.row_at-row.ensures c.loop-h.h c.loop-h-test.true, still_room x)

pub look_at-requires-clause-held_in_bounds : goal.look_at-requires-clause-held_in_bounds
look_at-requires-clause-held_in_bounds c =
    rw c.row_words-rows.ensures
    (row_inside (at_slot (goal.at.look_at-requires-clause-held_in_bounds c).In-loop-slot) c.requires.kept_marked c.row_at-row.ensures c.loop-h.h c.loop-h-test.true)

pub overflow_add-made : goal.overflow_add-made
overflow_add-made c =
    let x = at_slot (goal.at.overflow_add-made c).In-loop-slot in
    let e = rw c.row_words-rows.ensures at c.look_at.ensures in
    let out = out_there x c.requires.kept_marked c.row_at-row.ensures c.loop-h.h c.loop-h-test.true _ _ e _ c.loop-h.invariant c.in-OutOfChecks.is in
    omega (arith, few x.stands, looks_made_few c.args.tables.now c.loop-slot.work c.args.i c.loop-slot.slot (word c.args.work.now (64 + c.args.i)) (short x) out)

pub returns-in-OutOfChecks-clause-visits_marked : goal.returns-in-OutOfChecks-clause-visits_marked
returns-in-OutOfChecks-clause-visits_marked c =
    let x = at_slot (goal.at.returns-in-OutOfChecks-clause-visits_marked c).In-loop-slot in
    let e = rw c.row_words-rows.ensures at c.look_at.ensures in
    no_check x c.if-low-work.true (tried x _ _ c.trial.ensures c.in-Some.is)
    (out_there x c.requires.kept_marked c.row_at-row.ensures c.loop-h.h c.loop-h-test.true _ _ e _ c.loop-h.invariant c.in-OutOfChecks.is)

pub loop-h-preserved : goal.loop-h-preserved
loop-h-preserved c =
    let x = at_slot (goal.at.loop-h-preserved c).In-loop-slot in
    let e = rw c.row_words-rows.ensures at c.look_at.ensures in
    looks_allowed (short x) c.loop-h.invariant c.loop-h-test.true _ _
    (seen x c.requires.kept_marked c.row_at-row.ensures c.loop-h.h c.loop-h-test.true _ _ e) c.in-Allowed.is

pub returns-in_default-failing-clause-visits_marked : goal.returns-in_default-failing-clause-visits_marked
returns-in_default-failing-clause-visits_marked c =
    let x = at_slot (goal.at.returns-in_default-failing-clause-visits_marked c).In-loop-slot in
    let looks : AllLooks c.args.tables.now c.loop-slot.work c.args.i c.loop-slot.slot (word c.args.work.now (64 + c.args.i)) c.in-Some.tried c.loop-h-test.counts c.loop-h-test.failing =
    elim c.loop-h-test.branch [
      | then-loop-h-test+in-Forbidden w ↦
          let e = rw c.row_words-rows.ensures at w.look_at.ensures in
          rw (w.counts-is, w.failing-is)
          (one_fails x c.requires.kept_marked c.row_at-row.ensures c.loop-h.h w.loop-h-test.true _ _ e _ c.loop-h.invariant _ w.in-Forbidden.is)
      | else-loop-h-test w ↦ rw (w.counts-is, w.failing-is) (looks_end (short x) c.loop-h.invariant w.loop-h-test.false)
    ] in
    passes x c.if-low-work.true (tried x _ _ c.trial.ensures c.in-Some.is) _ (rw sub-one at c.saturating_sub.ensures) (rw c.in_default-failing.is at looks)

pub loop-slot-preserved : goal.loop-slot-preserved
loop-slot-preserved c =
    let x = at_slot (goal.at.loop-slot-preserved c).In-loop-slot in
    elim c.if-low-work.branch [
      | then-low-work+in-Some-failing w ↦
          let looks : AllLooks c.args.tables.now c.loop-slot.work c.args.i c.loop-slot.slot (word c.args.work.now (64 + c.args.i)) c.in-Some.tried w.loop-h-test.counts w.loop-h-test.failing =
          elim w.loop-h-test.branch [
            | then-loop-h-test+in-Forbidden w' ↦
                let e = rw c.row_words-rows.ensures at w'.look_at.ensures in
                rw (w'.counts-is, w'.failing-is)
                (one_fails x c.requires.kept_marked c.row_at-row.ensures w.loop-h.h w'.loop-h-test.true _ _ e _ w.loop-h.invariant _ w'.in-Forbidden.is)
            | else-loop-h-test w' ↦ rw (w'.counts-is, w'.failing-is) (looks_end (short x) w.loop-h.invariant w'.loop-h-test.false)
          ] in
          rw (w.work-is, w.counts-is)
          (refuses x w.if-low-work.true (tried x _ _ c.trial.ensures c.in-Some.is) _ (rw w.in-Some-failing.is at looks))
      | else-low-work w ↦ rw (w.work-is, w.counts-is) (skips x _ _ c.trial.ensures c.in-Some.is w.if-low-work.false)
    ]

pub returns-clause-visits_marked : goal.returns-clause-visits_marked
returns-clause-visits_marked c =
    spent c.requires.standing c.loop-slot.invariant (omega (arith, c.size-size.ensures.value, c.loop-slot-test.false))

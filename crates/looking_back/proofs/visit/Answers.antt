-- A visit that looks back: its slots are given up one after the other, each by its looks.
use mathlib.Core.Path.{◌≡◌, sym, ap, ◌∙◌}
use mathlib.Core.Bool.{Bool}
use mathlib.Core.List.{List, [], ◌∷◌}
use mathlib.Core.Option.{none, some}
use Rattle.std.specs.Prelude.{Option, Some, None}
use Prim.Native.Nat.{ℕ, ◌+◌, ◌-◌, ◌/◌, ◌%◌, ◌≤◌, ◌<◌}
use native.Mathlib.Nat.{le_refl}
use native.Mathlib.Numerals.{add-one}
use native.Mathlib.Omega.{arith}
use lib.ListN.{length, get_or, take}
use lib.Seq.{length-take-le}
use Rattle.problem.specs.Tables.{Tables, size, place, is_listed, start, bit}
use Rattle.problem.specs.declared.Allowance.{Allowance}
use Rattle.problem.specs.declared.Allowance.TheVariants.{Checks}
use Rattle.events.specs.declared.Counts.{Counts}
use Rattle.events.specs.Events.{trial}
use Rattle.events.specs.Counts.{check_counted, Makes, StopsIn}
use Rattle.events.proofs.Leading.{makes_append, makes_trial, trial_stops, stops_behind}
use Rattle.methods.specs.Choices.{may_stand}
use Rattle.methods.specs.BT.{look_back, looking_back}
use Rattle.methods.proofs.Shown.{choices_size}
use Rattle.words.specs.Layout.{word}
use Rattle.words.specs.Sets.{set_words}
use Rattle.words.proofs.Rows.{row_there, row_allows}
use Rattle.visits.specs.declared.Backward.{Backward}
use Rattle.visits.specs.declared.Backward.TheVariants.{OneBack}
use Rattle.visits.specs.declared.Look.{Look}
use Rattle.visits.specs.declared.Look.TheVariants.{Forbidden, OutOfChecks}
use Rattle.visits.specs.Looks.{checked_look}
use Rattle.visits.specs.Visits.{Standing, steps_over, state, ComesTo, Passes, RunsOut}
use Rattle.visits.proofs.Ends.{come_here, come_more}
use Rattle.visits.proofs.Looking.{look_of, Looking, looks_begin, looks_allowed, looks_forbidden, looks_end, looks_out, looks_made_few}
use Rattle.visits.proofs.Visiting.{in_choices}
use Rattle.looking_back.specs.Kept.{KeptBack}
use Rattle.looking_back.proofs.Links.{Next, next, none_left, links_few, link_boat_lem, link_row}
use Rattle.looking_back.proofs.Trials.{LookedTo, slot_passes, slot_fails, slot_tries}
use Rattle.looking_back.proofs.visit.Goals as goal
use Rattle.looking_back.proofs.visit.Goals.{In-Some, then-loop-at-test+in-Forbidden, else-loop-at-test}

-- what the looks of slot a come to: every boat is passed, or boat h fails
abbrev AllLooks : Tables → (w : List ℕ) → (i a : ℕ) → (begun k : Counts) → Option ℕ → Type 0
AllLooks t w i a begun k None = ((look_back t i a 0 (take i w)).failing ≡ none) × Makes begun (look_back t i a 0 (take i w)).checks k
AllLooks t w i a begun k (Some h) = (h < i) × ((look_back t i a 0 (take i w)).failing ≡ some h) × Makes begun (look_back t i a 0 (take i w)).checks k

module _ {t : Tables} {w : List ℕ} {i : ℕ} {m : Counts} (standing : Standing t w i m) where
  few : i < 64
  few = omega (arith, standing.sane.few_boats, standing.boat)

  short : i ≤ length w
  short = omega (arith, few, standing.room)

  module _ (kept : KeptBack t w i) where
    few_links : word w (193 + i) ≤ 2016
    few_links = links_few t w i kept.linked standing.boat standing.sane.few_boats

    -- ---- a link is left at `at`: slot a has passed the boats before the one that it names
    module _ {a at : ℕ} {begun n : Counts} (looked : LookedTo t w i a (word w (193 + i)) begun at n) (left : at < word w (193 + i)) where
      there : Next t w i short looked.h at (word w (193 + i))
      there = next t w i short looked.links left

      abbrev found : ℕ
      found = word w (512 + at)

      small : there.boat < 64
      small = omega (arith, there.below, few)

      named : found % 64 ≡ there.boat
      named = link_boat_lem t there.boat i found there.is_link small

      begins : found / 64 ≡ start t.sizes t.pairs (place t.pairs there.boat i)
      begins = link_row t there.boat i found there.is_link small

      -- its row is there, and what it says
      row_inside : found / 64 + word w (found % 64) < length t.rows
      row_inside =
          rw named
          (row_there t there.boat i (found / 64) begins there.listed (word w there.boat) standing.sane (kept.placed there.boat there.below))

      look_there : (r : Look) → r ≡ checked_look (bit (get_or t.rows (found / 64 + word w (found % 64)) 0) a) (check_counted n) →
          r ≡ look_of (is_listed t.pairs there.boat i) (may_stand t there.boat (word w there.boat) i a) n
      look_there r e =
          e
          ∙ ap (λ (o : Bool). checked_look o (check_counted n))
          (ap (λ (k : ℕ). bit (get_or t.rows (found / 64 + word w k) 0) a) named
          ∙ row_allows t there.boat i (found / 64) begins there.listed (word w there.boat) a)
          ∙ ap (λ (o : Bool). look_of o (may_stand t there.boat (word w there.boat) i a) n) (sym there.listed)

      -- the boats before that one are passed
      looking_there : Looking t w i a (look_back t i a 0 (take i w)) begun there.boat n
      looking_there = there.passed looked.looking

      -- it fails
      one_fails : (r : Look) (k : Counts) → r ≡ checked_look (bit (get_or t.rows (found / 64 + word w (found % 64)) 0) a) (check_counted n) → r ≡ Forbidden k →
          AllLooks t w i a begun k (Some (found % 64))
      one_fails r k e f =
          let z = looks_forbidden short looking_there there.below r k (look_there r e) f in
          rw named (there.below, z.0, z.1)

      -- its check is not covered
      out_there : (r : Look) → r ≡ checked_look (bit (get_or t.rows (found / 64 + word w (found % 64)) 0) a) (check_counted n) → r ≡ OutOfChecks →
          StopsIn begun (look_back t i a 0 (take i w)).checks Checks (n.checks - begun.checks) n
      out_there r e f = looks_out short looking_there there.below (sym (look_there r e) ∙ f)

    -- none is left
    all_passed : {a at : ℕ} {begun n : Counts} → LookedTo t w i a (word w (193 + i)) begun at n → word w (193 + i) ≤ at → AllLooks t w i a begun n None
    all_passed looked done = looks_end short (none_left t w i short looked.links done looked.looking) (le_refl _)

  -- ---- slot a is reached, with s as the boat's set
  module _ (backward : Backward) {from : ℕ} (with : ℕ) {a : ℕ} (s : ℕ) {start n : Counts} (in_size : a < size t.sizes i)
      (comes : ComesTo t (steps_over t (looking_back t) backward) (take i w) from (state backward (set_words w i with)) start a (state backward (set_words w i s)) n) where
    -- the run ends inside its step
    stopped : {which : Allowance} {made : ℕ} {k : Counts} → StopsIn n (trial i a ∷ (look_back t i a 0 (take i w)).checks) which made k →
        RunsOut t (steps_over t (looking_back t) backward) (take i w) from (state backward (set_words w i with)) start which a (state backward (set_words w i s)) made k
    stopped stops =
        let z = slot_tries t backward w i short standing.boat a s in_size in
        record {
          reached = n;
          comes = comes;
          stops = record {
            inside = in_choices t (looking_back t) backward w i short standing.boat a s in_size;
            events = trial i a ∷ (look_back t i a 0 (take i w)).checks;
            plan = z.0;
            choice = z.1;
            after = z.2;
            steps = z.3;
            stops = stops;
          };
        }

    -- no boat fails
    passed : {k : Counts} → (look_back t i a 0 (take i w)).failing ≡ none → Makes n (trial i a ∷ (look_back t i a 0 (take i w)).checks) k →
        Passes t (steps_over t (looking_back t) backward) (take i w) from (state backward (set_words w i with)) start a (state backward (set_words w i s)) k
    passed e makes =
        record {
          inside = in_choices t (looking_back t) backward w i short standing.boat a s in_size;
          remembered = state backward (set_words w i s);
          reached = n;
          comes = comes;
          events = trial i a ∷ (look_back t i a 0 (take i w)).checks;
          steps = slot_passes t backward w i short standing.boat a s in_size e;
          makes = makes;
        }

-- what the code knows where a slot is tried
module _ (c : In-Some) where
  in_size : c.loop-slot.slot < size c.args.tables.now.sizes c.args.i
  in_size = omega (arith, c.size-size.ensures.value, c.loop-slot-test.true)

  at_trial : Makes c.loop-slot.counts (trial c.args.i c.loop-slot.slot ∷ []) c.in-Some.tried
  at_trial = makes_trial _ _ (c.loop-slot.invariant.comes OneBack).makes.fits c.args.i c.loop-slot.slot (sym c.in-Some.ensures)

pub loop-slot-init : goal.loop-slot-init
loop-slot-init c = record { below = c.requires.with_bound; comes = λ backward. come_here _ _ c.requires.standing.fits }

pub returns-in_default : goal.returns-in_default
returns-in_default c = λ backward.
    record {
      below = c.loop-slot.invariant.below;
      ends = stopped c.requires.standing backward _ _ (omega (arith, c.size-size.ensures.value, c.loop-slot-test.true)) (c.loop-slot.invariant.comes backward)
          (trial_stops _ (c.loop-slot.invariant.comes backward).makes.fits _ _ _ (sym c.in_default.ensures));
    }

pub loop-at-init : goal.loop-at-init
loop-at-init c =
    record {
      h = 0;
      links = c.requires.kept_back.linked.links c.args.i c.requires.standing.boat;
      looking = looks_begin c.args.tables.now c.args.work.now c.args.i c.loop-slot.slot 0 _ (at_trial (goal.at.loop-at-init c).In-Some).fits;
    }

pub overflow_add-link : goal.overflow_add-link
overflow_add-link c = omega (arith, few_links c.requires.standing c.requires.kept_back, c.loop-at-test.true)

pub offset_bounds-work-at : goal.offset_bounds-work-at
offset_bounds-work-at c = omega (arith, few_links c.requires.standing c.requires.kept_back, c.loop-at-test.true)

pub bounds-work-at : goal.bounds-work-at
bounds-work-at c = omega (arith, few_links c.requires.standing c.requires.kept_back, c.loop-at-test.true, c.requires.standing.room)

pub overflow_add-row : goal.overflow_add-row
overflow_add-row c =
    omega (arith, row_inside c.requires.standing c.requires.kept_back c.loop-at.invariant c.loop-at-test.true, ap length c.row_words-rows.ensures)

pub offset_bounds-rows-link : goal.offset_bounds-rows-link
offset_bounds-rows-link c =
    omega (arith, row_inside c.requires.standing c.requires.kept_back c.loop-at.invariant c.loop-at-test.true, ap length c.row_words-rows.ensures)

pub bounds-rows-link : goal.bounds-rows-link
bounds-rows-link c = rw c.row_words-rows.ensures (row_inside c.requires.standing c.requires.kept_back c.loop-at.invariant c.loop-at-test.true)

pub overflow_add-made : goal.overflow_add-made
overflow_add-made c =
    let s = c.requires.standing in
    let out = out_there s c.requires.kept_back c.loop-at.invariant c.loop-at-test.true _ (rw c.row_words-rows.ensures at c.check_row.ensures) c.in-OutOfChecks.is in
    omega (arith, few s, looks_made_few c.args.tables.now c.args.work.now c.args.i c.loop-slot.slot 0 (short s) out)

pub returns-in-OutOfChecks : goal.returns-in-OutOfChecks
returns-in-OutOfChecks c = λ backward.
    let s = c.requires.standing in
    let out = out_there s c.requires.kept_back c.loop-at.invariant c.loop-at-test.true _ (rw c.row_words-rows.ensures at c.check_row.ensures) c.in-OutOfChecks.is in
    let at = (goal.at.returns-in-OutOfChecks c).In-Some in
    record {
      below = c.loop-slot.invariant.below;
      ends = stopped s backward _ _ (in_size at) (c.loop-slot.invariant.comes backward) (stops_behind (at_trial at) out);
    }

pub loop-at-preserved : goal.loop-at-preserved
loop-at-preserved c =
    let s = c.requires.standing in
    let k = c.requires.kept_back in
    let x = c.loop-at.invariant in
    let n = there s k x c.loop-at-test.true in
    record {
      h = n.boat + 1;
      links = rw (add-one, add-one) n.rest;
      looking = looks_allowed (short s) (looking_there s k x c.loop-at-test.true) n.below _ _
          (look_there s k x c.loop-at-test.true _ (rw c.row_words-rows.ensures at c.check_row.ensures)) c.in-Allowed.is;
    }

pub returns-in_default-failing : goal.returns-in_default-failing
returns-in_default-failing c = λ backward.
    let at = (goal.at.returns-in_default-failing c).In-Some in
    let looks : AllLooks c.args.tables.now c.args.work.now c.args.i c.loop-slot.slot c.in-Some.tried c.loop-at-test.counts c.loop-at-test.failing =
    elim c.loop-at-test.branch [
      | then-loop-at-test+in-Forbidden w ↦
          rw (w.counts-is, w.failing-is)
          (one_fails c.requires.standing c.requires.kept_back c.loop-at.invariant w.loop-at-test.true _ _ (rw c.row_words-rows.ensures at w.check_row.ensures) w.in-Forbidden.is)
      | else-loop-at-test w ↦ rw (w.counts-is, w.failing-is) (all_passed c.requires.standing c.requires.kept_back c.loop-at.invariant w.loop-at-test.false)
    ] in
    let z = rw c.in_default-failing.is at looks in
    record {
      below = c.loop-slot.invariant.below;
      ends = passed c.requires.standing backward _ _ (in_size at) (c.loop-slot.invariant.comes backward) z.0 (makes_append (at_trial at) z.1);
    }

pub loop-slot-preserved : goal.loop-slot-preserved
loop-slot-preserved c =
    let s = c.requires.standing in
    let at = (goal.at.loop-slot-preserved c).In-Some in
    let looks : AllLooks c.args.tables.now c.args.work.now c.args.i c.loop-slot.slot c.in-Some.tried c.loop-at-test.counts c.loop-at-test.failing =
    elim c.loop-at-test.branch [
      | then-loop-at-test+in-Forbidden w ↦
          rw (w.counts-is, w.failing-is)
          (one_fails c.requires.standing c.requires.kept_back c.loop-at.invariant w.loop-at-test.true _ _ (rw c.row_words-rows.ensures at w.check_row.ensures) w.in-Forbidden.is)
      | else-loop-at-test w ↦ rw (w.counts-is, w.failing-is) (all_passed c.requires.standing c.requires.kept_back c.loop-at.invariant w.loop-at-test.false)
    ] in
    let z = rw c.in-Some-failing.is at looks in
    record {
      below = c.with_member-set.ensures.below c.args.i z.0 c.loop-slot.invariant.below;
      comes = λ backward.
          rw add-one
          (come_more c.args.tables.now _ (c.loop-slot.invariant.comes backward)
          (slot_fails c.args.tables.now backward c.args.work.now c.args.i (short s) s.boat _ _ (in_size at) _ _ z.1 c.with_member-set.ensures) (makes_append (at_trial at) z.2));
    }

pub returns : goal.returns
returns c = λ backward.
    let s = c.requires.standing in
    record {
      below = c.loop-slot.invariant.below;
      ends = record {
        last = c.loop-slot.slot;
        none = rw (length-take-le c.args.i c.args.work.now (short s), choices_size c.args.tables.now c.args.i) (omega (arith, c.size-size.ensures.value, c.loop-slot-test.false));
        comes = c.loop-slot.invariant.comes backward;
      };
    }

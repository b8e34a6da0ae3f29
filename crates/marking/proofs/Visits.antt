-- A visit that goes by the marks, over the words: what each step of the code comes to.
use mathlib.Core.Path.{◌≡◌, sym, ap, ◌∙◌, fun_ext}
use mathlib.Core.Logic.{inl}
use mathlib.Core.List.{List, [], ◌∷◌}
use mathlib.Core.Option.{none, some}
use Prim.Native.Nat.{ℕ, suc, pred, ◌+◌, ◌≤◌, ◌<◌}
use native.Mathlib.Omega.{arith}
use native.Mathlib.Decide.{dec_lt}
use native.Mathlib.Numerals.{add-one}
use lib.ListN.{length, take, drop, set}
use lib.Seq.{length-take-le}
use Rattle.problem.specs.Tables.{Tables, boats, size}
use Rattle.problem.specs.declared.Allowance.{Allowance}
use Rattle.problem.specs.declared.Allowance.TheVariants.{Checks, Trials}
use Rattle.events.specs.declared.Counts.{Counts}
use Rattle.std.specs.Prelude.{Option, Some, None}
use Rattle.events.specs.Events.{Event, trial}
use Rattle.events.specs.Counts.{trial_counted, Makes, StopsIn}
use Rattle.events.proofs.Leading.{makes_trial, makes_append, trial_stops, stops_behind}
use Rattle.methods.specs.Choices.{choices}
use Rattle.methods.specs.Machine.{Step, next, step}
use Rattle.methods.specs.BT.{Looked, look_back}
use Rattle.methods.specs.BM.{Marks, bm}
use Rattle.methods.proofs.Shown.{choices_size}
use Rattle.words.specs.Places.{low_at, mark_at, used}
use Rattle.words.specs.Layout.{word, ChangedOnly, Placed, Indexed}
use Rattle.words.proofs.Frames.{same_before, placed_stays, indexed_stays}
use Rattle.words.proofs.ChangedOnly.{only_refl, only_trans, only_set, only_take}
use Rattle.visits.specs.Visits.{Standing, ComesTo, Passes, Spends, RunsOut}
use Rattle.visits.proofs.Ends.{come_here, come_more}
use Rattle.marks.specs.Marks.{marks_of}
use Rattle.marks.proofs.Stores.{mark_word, low_word, marked_words}
use Rattle.marking.proofs.Trials.{led, step_below, step_looks}

-- what slot b of boat i comes to where boats are looked at from h on
abbrev pub looks_from : Tables → (w : List ℕ) → (i b h : ℕ) → Looked
looks_from t w i b h = look_back t i b h (drop h (take i w))

-- a visit of boat i has come from slot a to slot b: its marks alone have changed since the words were v
pub record Come (t : Tables) (v : List ℕ) (i a : ℕ) (m : Counts) (w : List ℕ) (b : ℕ) (k : Counts) : Type 0 where
  pub only : ChangedOnly (mark_at i 0) (mark_at i 64) v w
  pub comes : ComesTo t (bm t) (take i v) a (marks_of v) m b (marks_of w) k

-- and the boat has slot b
pub record AtSlot (t : Tables) (v : List ℕ) (i a : ℕ) (m : Counts) (w : List ℕ) (b : ℕ) (k : Counts) : Type 0 where
  pub stands : Standing t v i m
  pub come : Come t v i a m w b k
  pub has : b < size t.sizes i

module _ {t : Tables} {v : List ℕ} {i : ℕ} {m : Counts} (s : Standing t v i m) where
  pub few : i < 64
  few = omega (arith, s.sane.few_boats)

  long : length (take i v) ≡ i
  long = length-take-le i v (omega (arith, few))

  pub come_first : (a : ℕ) → Come t v i a m v a m
  come_first a = record { only = only_refl _ _ v; comes = come_here t (bm t) s.fits }

  -- no slot is left
  pub spent : {a : ℕ} {w : List ℕ} {b : ℕ} {k : Counts} → Come t v i a m w b k → size t.sizes i ≤ b → Spends t (bm t) (take i v) a (marks_of v) m (marks_of w) k
  spent {b = b} x l = record { last = b; none = rw (long, choices_size t i) l; comes = x.comes }

module _ {t : Tables} {v : List ℕ} {i a : ℕ} {m : Counts} {w : List ℕ} {b : ℕ} {k : Counts} (x : AtSlot t v i a m w b k) where
  abbrev s : Standing t v i m
  s = x.stands

  -- what holds still
  pub still_room : used ≤ length w
  still_room = omega (arith, s.room, x.come.only.long)

  pub still_placed : Placed t v i → Placed t w i
  still_placed = placed_stays t v w i (same_before x.come.only (omega (arith, few s)))

  pub still_indexed : Indexed t v → Indexed t w
  still_indexed = indexed_stays t v w s.sane.few_boats (same_before x.come.only (omega arith))

  pub slot_small : b < 64
  slot_small = omega (arith, s.sane.few_slots i s.boat)

  -- the mark has a word, and its store leaves the others as they were
  pub mark_inside : mark_at i b < used
  mark_inside = omega (arith, few s, slot_small)

  pub mark_only : (u : ℕ) → ChangedOnly (mark_at i 0) (mark_at i 64) v (set w (mark_at i b) u)
  mark_only u = only_trans x.come.only (only_set w (mark_at i b) u (omega arith) (omega (arith, slot_small)))

  -- ---- the step at slot b
  placed : length (take i v) < boats t
  placed = rw (long s) s.boat

  inside : b < choices t (length (take i v))
  inside = rw (long s, choices_size t i) x.has

  -- b and the mark, as the step has them
  low_is : (marks_of w).b (length (take i v)) ≡ word v (low_at i)
  low_is = rw (long s) (low_word w i (few s) ∙ x.come.only.others (low_at i) (inl (omega (arith, few s))))

  mark_is : (marks_of w).m (length (take i v)) b ≡ word w (mark_at i b)
  mark_is = rw (long s) (mark_word w i b (few s) slot_small)

  below_steps : word w (mark_at i b) < word v (low_at i) → step t (bm t) (take i v) b (marks_of w) ≡ next (trial i b ∷ []) (take i v) (suc b) (marks_of w)
  below_steps l = rw (long s) at (step_below t (take i v) b (marks_of w) placed inside (word v (low_at i)) low_is (omega (arith, mark_is)))

  -- the looks go by the words as they are, which hold the same boats placed
  abbrev looked : Looked
  looked = looks_from t w i b (word v (low_at i))

  abbrev stored : ℕ → Marks
  stored u = marks_of (set w (mark_at i b) u)

  looks_steps : word v (low_at i) ≤ word w (mark_at i b) → step t (bm t) (take i v) b (marks_of w) ≡ led (take i v) i b (trial i b ∷ looked.checks) stored looked.failing
  looks_steps l =
      (rw (long s) at (step_looks t (take i v) b (marks_of w) placed inside (word v (low_at i)) low_is (omega (arith, mark_is))))
      ∙ ap (over (take i v)) (fun_ext (λ u. sym (marked_words w i b u (few s) slot_small still_room)))
      ∙ ap (λ (q : List ℕ). over q stored) (sym (only_take x.come.only i (omega (arith, few s)) (omega (arith, few s, s.room))))
    where
      -- with the plan so far in q
      over : (q : List ℕ) → (ℕ → Marks) → Step Marks
      over q τ = let r = look_back t i b (word v (low_at i)) (drop (word v (low_at i)) q) in led (take i v) i b (trial i b ∷ r.checks) τ r.failing

  -- the run ends inside it
  stopped : {es : List Event} {plan : List ℕ} {choice : ℕ} {after : Marks} {which : Allowance} {made : ℕ} {n : Counts} →
      step t (bm t) (take i v) b (marks_of w) ≡ next es plan choice after → StopsIn k es which made n → RunsOut t (bm t) (take i v) a (marks_of v) m which b (marks_of w) made n
  stopped e z =
      record { reached = k; comes = x.come.comes; stops = record { inside = inside; events = _; plan = _; choice = _; after = _; steps = e; stops = z } }

  -- ---- the trial is not covered, or counted
  pub no_trial : (r : Option Counts) → r ≡ trial_counted k → r ≡ None → RunsOut t (bm t) (take i v) a (marks_of v) m Trials b (marks_of w) 0 k
  no_trial r e g = by (dec_lt (word w (mark_at i b)) (word v (low_at i)))
    where
      by : Dec (word w (mark_at i b) < word v (low_at i)) → RunsOut t (bm t) (take i v) a (marks_of v) m Trials b (marks_of w) 0 k
      by (yes l) = stopped (below_steps l) (trial_stops k x.come.comes.makes.fits i b _ (sym e ∙ g))
      by (no n) = stopped (looks_steps (omega arith)) (trial_stops k x.come.comes.makes.fits i b _ (sym e ∙ g))

  module _ (r : Option Counts) (k' : Counts) (e : r ≡ trial_counted k) where
    pub tried : r ≡ Some k' → Makes k (trial i b ∷ []) k'
    tried g = makes_trial k k' x.come.comes.makes.fits i b (sym e ∙ g)

    -- the mark tells that the slot fails
    pub skips : r ≡ Some k' → word w (mark_at i b) < word v (low_at i) → Come t v i a m w (b + 1) k'
    skips g l = record { only = x.come.only; comes = rw add-one (come_more t (bm t) x.come.comes (below_steps l) (tried g)) }

  -- ---- the mark does not tell, and boats are looked at
  module _ (l : word v (low_at i) ≤ word w (mark_at i b)) {k' : Counts} (made : Makes k (trial i b ∷ []) k') where
    pub no_check : {d : ℕ} {n : Counts} → StopsIn k' looked.checks Checks d n → RunsOut t (bm t) (take i v) a (marks_of v) m Checks b (marks_of w) (1 + d) n
    no_check z = stopped (looks_steps l) (stops_behind made z)

    -- no boat failed, or boat h did
    pub passes : {n : Counts} (u : ℕ) → u ≡ pred i → (looked.failing ≡ none) × Makes k' looked.checks n → Passes t (bm t) (take i v) a (marks_of v) m b (stored u) n
    passes u e y =
        record {
          inside = inside;
          remembered = marks_of w;
          reached = k;
          comes = x.come.comes;
          events = trial i b ∷ looked.checks;
          steps = rw e (looks_steps l ∙ ap (led (take i v) i b (trial i b ∷ looked.checks) stored) y.0);
          makes = makes_append made y.1;
        }

    pub refuses : {n : Counts} (h : ℕ) → (looked.failing ≡ some h) × Makes k' looked.checks n → Come t v i a m (set w (mark_at i b) h) (b + 1) n
    refuses h y =
        record {
          only = mark_only h;
          comes = rw add-one
              (come_more t (bm t) x.come.comes (looks_steps l ∙ ap (led (take i v) i b (trial i b ∷ looked.checks) stored) y.0) (makes_append made y.1));
        }

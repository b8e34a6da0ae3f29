-- A search on its moves: what the loop keeps, how each move keeps it and leaves less ahead, and how it ends.
use mathlib.Core.Path.{◌≡◌, sym, ap, ◌∙◌, subst}
use mathlib.Core.List.{List, [], ◌++◌}
use Prim.Native.Nat.{ℕ, suc, ◌≤◌, ◌<◌}
use native.Mathlib.Omega.{arith}
use lib.ListN.{length, take, get_or}
use lib.Seq.{length-take-le, take-take, get_or-take}
use Rattle.problem.specs.Tables.{Tables, boats}
use Rattle.problem.specs.Sane.{Sane}
use Rattle.problem.specs.declared.Allowance.{Allowance}
use Rattle.events.specs.Events.{Event}
use Rattle.events.specs.declared.Counts.{Counts}
use Rattle.events.specs.Counts.{Makes}
use Rattle.events.proofs.Leading.{makes_none, makes_append}
use Rattle.methods.specs.Choices.{choices}
use Rattle.methods.specs.Machine.{nowhere, next, step}
use Rattle.methods.specs.Reached.{here, onward}
use Rattle.methods.proofs.StepsLeft.{steps_left_of, forward_falls, return_falls}
use Rattle.methods.proofs.Runs.{step_out, step_back}
use Rattle.methods.proofs.GivenUp.{steps_given_up}
use Rattle.words.specs.Places.{used}
use Rattle.words.specs.Layout.{word, ChangedOnly, Placed}
use Rattle.words.proofs.ChangedOnly.{only_refl, only_trans}
use Rattle.visits.specs.Visits.{ComesTo}
use Rattle.visits.proofs.Ends.{come_le}
use Rattle.moves.specs.declared.Moves.{Moves}
use Rattle.moves.specs.declared.Moves.TheVariants.{LookingBack, Marking, LookingAhead}
use Rattle.moves.specs.Memory.{Memory, steps_by, memory, Kept}
use Rattle.labelling.specs.Labels.{MovesOn, NoneLeft, Halts}
use Rattle.unlabelling.specs.Unlabels.{GoesBack}
use Rattle.ends.specs.declared.Ended.TheVariants.{Undecided}
use Rattle.walk.specs.Walks.{Arrives, EndsNoPlan, Ends, Setting}

pub placed_of : (moves : Moves) (t : Tables) (w : List ℕ) (i : ℕ) → Kept moves t w i → Placed t w i
placed_of (LookingBack backward) t w i k = k.words.placed
placed_of Marking t w i k = k.placed
placed_of (LookingAhead backward) t w i k = k.words.placed

-- from the words w₀, a place with the counts m₀, the walk has come to slot a of boat i
pub record Underway (moves : Moves) (t : Tables) (p₀ : List ℕ) (a₀ : ℕ) (σ₀ : Memory moves) (w₀ : List ℕ) (m₀ : Counts) (w : List ℕ) (i a : ℕ) (m : Counts) : Type 0 where
  pub boat : i ≤ boats t
  pub only : ChangedOnly 0 used w₀ w
  pub kept : Kept moves t w i
  pub arrives : Arrives moves t p₀ a₀ σ₀ m₀ (take i w) a (memory moves w i) m

pub begins : (moves : Moves) (t : Tables) (w : List ℕ) (i a : ℕ) (m : Counts) → Setting moves t w i m → Underway moves t (take i w) a (memory moves w i) w m w i a m
begins moves t w i a m p =
    record { boat = p.boat; only = only_refl 0 used w; kept = p.kept; arrives = record { events = []; steps = here; makes = makes_none m p.fits } }

-- one step more, and choices given up
module _ {moves : Moves} {t : Tables} {p₀ : List ℕ} {a₀ : ℕ} {σ₀ : Memory moves} {m₀ : Counts} {q : List ℕ} {b : ℕ} {τ : Memory moves} {n : Counts}
    (v : Arrives moves t p₀ a₀ σ₀ m₀ q b τ n) where
  arrives_step : {fs : List Event} {r : List ℕ} {c : ℕ} {υ : Memory moves} {k : Counts} → step t (steps_by moves t) q b τ ≡ next fs r c υ → Makes n fs k →
      Arrives moves t p₀ a₀ σ₀ m₀ r c υ k
  arrives_step {fs} e g = record { events = v.events ++ fs; steps = onward v.steps e; makes = makes_append v.makes g }

  arrives_come : {c : ℕ} {υ : Memory moves} {k : Counts} → ComesTo t (steps_by moves t) q b τ n c υ k → Arrives moves t p₀ a₀ σ₀ m₀ q c υ k
  arrives_come d = record { events = v.events ++ d.events; steps = steps_given_up t (steps_by moves t) v.steps d.given_up; makes = makes_append v.makes d.makes }

module _ (moves : Moves) (t : Tables) (s : Sane t) (p₀ : List ℕ) (a₀ : ℕ) (σ₀ : Memory moves) (w₀ : List ℕ) (m₀ : Counts) (room : used ≤ length w₀) where
  module _ (w : List ℕ) (i a : ℕ) (m : Counts) (u : Underway moves t p₀ a₀ σ₀ w₀ m₀ w i a m) where
    pub long : used ≤ length w
    long = omega (arith, u.only.long)

    held : length (take i w) ≡ i
    held = length-take-le i w (omega (arith, u.boat, s.few_boats, long))

    module _ (l : i < boats t) where
      short : length (take i w) < boats t
      short = rw held l

      -- ---- forward
      module _ (w' : List ℕ) (k : Counts) (f : MovesOn moves t w i a m w' k) where
        pub forward : Underway moves t p₀ a₀ σ₀ w₀ m₀ w' (suc i) 0 k
        forward =
            record {
              boat = l;
              only = only_trans u.only f.only;
              kept = f.kept;
              arrives = rw f.placed (arrives_step (arrives_come u.arrives f.passes.comes) f.passes.steps f.passes.makes);
            }

        pub forward_less : steps_left_of t (take (suc i) w') 0 < steps_left_of t (take i w) a
        forward_less = rw f.placed (forward_falls t (take i w) a short f.slot (come_le t (steps_by moves t) f.passes.comes) f.passes.inside)

      -- ---- an allowance runs out
      pub halted : (w' : List ℕ) (which : Allowance) (b made : ℕ) (k : Counts) → Halts moves t w i a m w' which b made k →
          Ends moves t p₀ a₀ σ₀ w₀ m₀ w' (Undecided k which (record { boat = i; slot = b; made = made }))
      halted w' which b made k h =
          record {
            only = only_trans u.only h.only;
            ends = record {
              boat = l;
              kept = h.kept;
              reached = h.runs_out.reached;
              arrives = rw h.same (arrives_come u.arrives h.runs_out.comes);
              stops = rw h.same h.runs_out.stops;
            };
          }

      -- ---- no slot is left
      module _ (v : List ℕ) (k : Counts) (z : NoneLeft moves t w i a m v k) where
        pub left_long : used ≤ length v
        left_long = omega (arith, z.only.long, long)

        left_held : length (take i v) ≡ i
        left_held = ap length z.same ∙ held

        abbrev last : ℕ
        last = z.spends.last

        none_left : choices t (length (take i v)) ≤ last
        none_left = rw z.same z.spends.none

        reached : Arrives moves t p₀ a₀ σ₀ m₀ (take i v) last (memory moves v i) k
        reached = rw z.same (arrives_come u.arrives z.spends.comes)

        pub no_plan_lem : (steps_by moves t).unlabel (memory moves v i) (take i v) ≡ nowhere → EndsNoPlan moves t p₀ a₀ σ₀ m₀ k
        no_plan_lem e =
            record {
              plan = take i v;
              choice = last;
              remembered = memory moves v i;
              arrives = reached;
              stops = step_out t (steps_by moves t) (take i v) last (memory moves v i) (rw left_held l) none_left e;
            }

        module _ (w' : List ℕ) (h : ℕ) (g : GoesBack moves t v i w' h) where
          back_held : word w' h ≡ word v h
          back_held = sym (get_or-take (suc h) w' h 0 (omega arith)) ∙ ap (λ (p : List ℕ). get_or p h 0) g.same ∙ get_or-take (suc h) v h 0 (omega arith)

          back_plan : take h (take i v) ≡ take h w'
          back_plan =
              take-take h i v (omega (arith, g.below))
              ∙ sym (take-take h (suc h) v (omega arith))
              ∙ ap (take h) (sym g.same)
              ∙ take-take h (suc h) w' (omega arith)

          back_choice : get_or (take i v) h 0 ≡ word w' h
          back_choice = get_or-take i v h 0 g.below ∙ sym back_held

          -- the slot that a boat gives up is one of its own
          pub given_up_lem : word w' h < 64
          given_up_lem =
              let p = placed_of moves t v i z.kept h g.below in
              rw back_held (omega (arith, p, s.few_slots h (omega (arith, g.below, l))))

          goes_to : step t (steps_by moves t) (take i v) last (memory moves v i) ≡ next [] (take h w') (suc (word w' h)) (memory moves w' h)
          goes_to =
              rw (← back_plan, ← back_choice)
              (step_back t (steps_by moves t) (take i v) last (memory moves v i) (rw left_held l) none_left h (memory moves w' h) g.goes (rw left_held g.below))

          pub backward : Underway moves t p₀ a₀ σ₀ w₀ m₀ w' h (suc (word w' h)) k
          backward =
              record {
                boat = omega (arith, g.below, l);
                only = only_trans u.only (only_trans z.only g.only);
                kept = g.kept;
                arrives = arrives_step reached goes_to (makes_none k reached.makes.fits);
              }

          pub backward_less : steps_left_of t (take h w') (suc (word w' h)) < steps_left_of t (take i w) a
          backward_less =
              let lh : h < length (take i w) = rw held g.below in
              subst (λ (p : List ℕ). steps_left_of t p (suc (word w' h)) < steps_left_of t (take i w) a) (ap (take h) (sym z.same) ∙ back_plan)
              (subst (λ (y : ℕ). steps_left_of t (take h (take i w)) (suc y) < steps_left_of t (take i w) a) (ap (λ (p : List ℕ). get_or p h 0) (sym z.same) ∙ back_choice)
              (return_falls t (take i w) a short h lh))

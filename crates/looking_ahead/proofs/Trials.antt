-- A trial that looks ahead: the step that it is, under both ways back, by what its sweep comes to.
use mathlib.Core.Path.{◌≡◌, refl, ap}
use mathlib.Core.Bool.{true, ◌||◌}
use mathlib.Core.List.{List, [], ◌∷◌, ◌++◌}
use mathlib.Core.Option.{Option, none, some}
use Prim.Native.Nat.{ℕ, suc, ◌≤◌, ◌<◌}
use lib.ListN.{length, take}
use Rattle.problem.specs.Tables.{Tables, boats, size, bit}
use Rattle.events.specs.Events.{trial}
use Rattle.methods.specs.Machine.{next, step}
use Rattle.methods.specs.ByPlan.{is_open, blamers_of, end_of_open, ahead_by_plan}
use Rattle.words.specs.Sets.{set_words}
use Rattle.visits.specs.declared.Backward.{Backward}
use Rattle.visits.specs.declared.Backward.TheVariants.{BySets}
use Rattle.visits.specs.Visits.{State, steps_over, state}
use Rattle.visits.proofs.Visiting.{trial_of, step_passes, step_fails, step_tries}
use Rattle.sweeping.specs.Sweeps.{sweep_of}

pub ahead_live : (t : Tables) (p : List ℕ) (a : ℕ) → (ahead_by_plan t).live tt p a ≡ is_open t p (length p) a
unfolding ahead_by_plan
ahead_live t p a = refl

module _ (t : Tables) (backward : Backward) (w : List ℕ) (i : ℕ) (le : i ≤ length w) (lt : i < boats t) (a s : ℕ) (la : a < size t.sizes i)
    (live : (ahead_by_plan t).live tt (take i w) a ≡ true) where
  is_trial : trial_of t (ahead_by_plan t) backward w i le lt a s la ≡ trial i a ∷ (sweep_of t (take i w) a).checks
  unfolding ahead_by_plan
  is_trial = refl

  judged : (x : Option ℕ) → (sweep_of t (take i w) a).emptied ≡ x → ((ahead_by_plan t).trial tt (take i w) a).verdict ≡ end_of_open t (take i w) x
  unfolding ahead_by_plan
  judged x e = ap (end_of_open t (take i w)) e

  -- no boat is emptied: the slot passes
  pub slot_passes : (sweep_of t (take i w) a).emptied ≡ none →
      step t (steps_over t (ahead_by_plan t) backward) (take i w) a (state backward (set_words w i s))
      ≡ next (trial i a ∷ (sweep_of t (take i w) a).checks) (take i w ++ (a ∷ [])) 0 (state backward (set_words w i s))
  slot_passes e = rw is_trial at (step_passes t (ahead_by_plan t) backward w i le lt a s la live tt (judged none e))

  -- boat j is emptied: its blamers go into the set
  pub slot_fails : (j u : ℕ) → (sweep_of t (take i w) a).emptied ≡ some j → (backward ≡ BySets → (g : ℕ) → bit u g ≡ (bit s g || blamers_of t (take i w) j g)) →
      step t (steps_over t (ahead_by_plan t) backward) (take i w) a (state backward (set_words w i s))
      ≡ next (trial i a ∷ (sweep_of t (take i w) a).checks) (take i w) (suc a) (state backward (set_words w i u))
  slot_fails j u e f = rw is_trial at (step_fails t (ahead_by_plan t) backward w i le lt a s la live u (blamers_of t (take i w) j) (judged (some j) e) f)

  -- whichever it is, these are its events
  pub slot_tries : (plan : List ℕ) × (choice : ℕ) × (after : State backward)
      × (step t (steps_over t (ahead_by_plan t) backward) (take i w) a (state backward (set_words w i s)) ≡ next (trial i a ∷ (sweep_of t (take i w) a).checks) plan choice after)
  slot_tries = rw is_trial at (step_tries t (ahead_by_plan t) backward w i le lt a s la live)

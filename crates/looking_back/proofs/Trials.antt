-- A trial that looks back: the step that it is, under both ways back, by what its looks come to.
use mathlib.Core.Path.{◌≡◌, refl, ap, ◌∙◌}
use mathlib.Core.Bool.{true}
use mathlib.Core.List.{List, [], ◌∷◌, ◌++◌}
use mathlib.Core.Option.{Option, none, some}
use Prim.Native.Nat.{ℕ, suc, ◌≤◌, ◌<◌}
use lib.ListN.{length, take}
use lib.Seq.{length-take-le}
use Rattle.problem.specs.Tables.{Tables, boats, size}
use Rattle.events.specs.declared.Counts.{Counts}
use Rattle.events.specs.Events.{trial}
use Rattle.methods.specs.Machine.{next, step}
use Rattle.methods.specs.Moves.{only}
use Rattle.methods.specs.BT.{Looked, look_back, blame_failing, looking_back}
use Rattle.words.specs.Links.{Links}
use Rattle.words.specs.Sets.{WithMember, set_words}
use Rattle.visits.specs.declared.Backward.{Backward}
use Rattle.visits.specs.Visits.{State, steps_over, state}
use Rattle.visits.proofs.Looking.{Looking}
use Rattle.visits.proofs.Visiting.{trial_of, step_passes, step_fails, step_tries}

-- slot a of boat i has passed the boats below h, whose links from there on are the words from `at` up to `end`
pub record LookedTo (t : Tables) (w : List ℕ) (i a end : ℕ) (begun : Counts) (at : ℕ) (n : Counts) : Type 0 where
  pub h : ℕ
  pub links : Links t w i i h at end
  pub looking : Looking t w i a (look_back t i a 0 (take i w)) begun h n

module _ (t : Tables) (backward : Backward) (w : List ℕ) (i : ℕ) (le : i ≤ length w) (lt : i < boats t) (a s : ℕ) (la : a < size t.sizes i) where
  abbrev whole : Looked
  whole = look_back t i a 0 (take i w)

  is_live_lem : (looking_back t).live tt (take i w) a ≡ true
  unfolding looking_back
  is_live_lem = refl

  is_trial : trial_of t (looking_back t) backward w i le lt a s la ≡ trial i a ∷ whole.checks
  unfolding looking_back
  is_trial = ap (λ (n : ℕ). trial i a ∷ (look_back t n a 0 (take i w)).checks) (length-take-le i w le)

  judged : (f : Option ℕ) → whole.failing ≡ f → ((looking_back t).trial tt (take i w) a).verdict ≡ blame_failing f
  unfolding looking_back
  judged f e = ap (λ (n : ℕ). blame_failing (look_back t n a 0 (take i w)).failing) (length-take-le i w le) ∙ ap blame_failing e

  -- nobody fails: the slot passes
  pub slot_passes : whole.failing ≡ none →
      step t (steps_over t (looking_back t) backward) (take i w) a (state backward (set_words w i s))
      ≡ next (trial i a ∷ whole.checks) (take i w ++ (a ∷ [])) 0 (state backward (set_words w i s))
  slot_passes e = rw is_trial at (step_passes t (looking_back t) backward w i le lt a s la is_live_lem tt (judged none e))

  -- boat h fails: it goes into the set
  pub slot_fails : (h u : ℕ) → whole.failing ≡ some h → WithMember s h u →
      step t (steps_over t (looking_back t) backward) (take i w) a (state backward (set_words w i s))
      ≡ next (trial i a ∷ whole.checks) (take i w) (suc a) (state backward (set_words w i u))
  slot_fails h u e m = rw is_trial at (step_fails t (looking_back t) backward w i le lt a s la is_live_lem u (only h) (judged (some h) e) (λ _. m.members))

  -- whichever it is, these are its events
  pub slot_tries : (plan : List ℕ) × (choice : ℕ) × (after : State backward)
      × (step t (steps_over t (looking_back t) backward) (take i w) a (state backward (set_words w i s)) ≡ next (trial i a ∷ whole.checks) plan choice after)
  slot_tries = rw is_trial at (step_tries t (looking_back t) backward w i le lt a s la is_live_lem)

-- The steps of a visit over the words, under both ways back and any forward move that remembers nothing: a slot that is not live, and a trial that passes or
-- fails, with the sets that it fills.
use mathlib.Core.Path.{◌≡◌, refl, sym, fun_ext}
use mathlib.Core.Bool.{Bool, true, false, cond, ◌||◌}
use mathlib.Core.List.{List, [], ◌∷◌, ◌++◌}
use Prim.Native.Nat.{ℕ, suc, ◌+◌, ◌≤◌, ◌<◌}
use lib.Dec.{ltb, eqb}
use lib.ListN.{length, take}
use lib.Seq.{length-take-le}
use Rattle.problem.specs.Tables.{Tables, boats, size, bit}
use Rattle.events.specs.Events.{Event, trial}
use Rattle.methods.specs.Choices.{choices}
use Rattle.methods.specs.Machine.{next, step}
use Rattle.methods.specs.Moves.{Boats, Verdict, pass, fail, Forward, stepping}
use Rattle.methods.specs.CBJ.{blamed, jumping}
use Rattle.methods.proofs.Runs.{step_skip, step_fail, step_pass}
use Rattle.methods.proofs.Shown.{choices_size}
use Rattle.words.specs.Layout.{word}
use Rattle.words.specs.Sets.{set_words}
use Rattle.visits.specs.declared.Backward.{Backward}
use Rattle.visits.specs.declared.Backward.TheVariants.{OneBack, BySets}
use Rattle.visits.specs.Visits.{State, steps_over, state}

-- what is remembered of a trial of boat i that failed, with these boats to blame
abbrev fell : (backward : Backward) → State backward → (i : ℕ) → Boats → State backward
fell OneBack σ i blame = tt
fell BySets σ i blame = record { sets = blamed σ.sets i {S = Unit {0}} (fail blame); rest = tt }

-- ---- one step
module _ (t : Tables) (F : Forward (Unit {0})) (p : List ℕ) (a : ℕ) (lp : length p < boats t) (la : a < choices t (length p)) where
  skips : (backward : Backward) (σ : State backward) → F.live tt p a ≡ false → step t (steps_over t F backward) p a σ ≡ next [] p (suc a) σ
  skips OneBack σ e = step_skip t (stepping F) p a σ lp la e
  skips BySets σ e = step_skip t (jumping t F) p a σ lp la e

  -- the events of a trial
  abbrev tries : List Event
  tries = trial (length p) a ∷ (F.trial tt p a).checks

  module _ (live : F.live tt p a ≡ true) where
    passes : (backward : Backward) (σ : State backward) (τ : Unit {0}) → (F.trial tt p a).verdict ≡ pass τ →
        step t (steps_over t F backward) p a σ ≡ next tries (p ++ (a ∷ [])) 0 σ
    passes OneBack σ τ e = step_pass t (stepping F) p a σ lp la live (rw e)
    passes BySets σ τ e = rw e at (step_pass t (jumping t F) p a σ lp la live (rw e))

    fails : (backward : Backward) (σ : State backward) (blame : Boats) → (F.trial tt p a).verdict ≡ fail blame →
        step t (steps_over t F backward) p a σ ≡ next tries p (suc a) (fell backward σ (length p) blame)
    fails OneBack σ blame e = step_fail t (stepping F) p a σ lp la live (rw e)
    fails BySets σ blame e = rw e at (step_fail t (jumping t F) p a σ lp la live (rw e))

-- ---- over the words
-- boat i's set takes in the boats to blame; stepping back, it is whatever it is
fell_words : (backward : Backward) (w : List ℕ) (i s u : ℕ) (blame : Boats) → (backward ≡ BySets → (j : ℕ) → bit u j ≡ (bit s j || blame j)) →
    fell backward (state backward (set_words w i s)) i blame ≡ state backward (set_words w i u)
fell_words OneBack w i s u blame e = refl
fell_words BySets w i s u blame e = λ d. record { sets = fun_ext (λ k. fun_ext (λ j. by j (eqb k i) (cond (ltb k i) (word w (64 + k)) 0))) d; rest = tt }
  where
    by : (j : ℕ) (own : Bool) (r : ℕ) → cond own (bit (cond own s r) j || blame j) (bit (cond own s r) j) ≡ bit (cond own u r) j
    by j true r = sym (e refl j)
    by j false r = refl

module _ (t : Tables) (F : Forward (Unit {0})) (backward : Backward) (w : List ℕ) (i : ℕ) (le : i ≤ length w) (lt : i < boats t) (a s : ℕ) (la : a < size t.sizes i) where
  long : length (take i w) ≡ i
  long = length-take-le i w le

  placed : length (take i w) < boats t
  placed = rw long lt

  pub in_choices : a < choices t (length (take i w))
  in_choices = rw (long, choices_size t i) la

  abbrev here : State backward
  here = state backward (set_words w i s)

  abbrev pub trial_of : List Event
  trial_of = trial i a ∷ (F.trial tt (take i w) a).checks

  -- a slot that is not live is passed over
  pub step_dead : F.live tt (take i w) a ≡ false → step t (steps_over t F backward) (take i w) a here ≡ next [] (take i w) (suc a) here
  step_dead e = skips t F (take i w) a placed in_choices backward here e

  module _ (live : F.live tt (take i w) a ≡ true) where
    -- a trial passes
    pub step_passes : (τ : Unit {0}) → (F.trial tt (take i w) a).verdict ≡ pass τ →
        step t (steps_over t F backward) (take i w) a here ≡ next trial_of (take i w ++ (a ∷ [])) 0 here
    step_passes τ e = rw long at (passes t F (take i w) a placed in_choices live backward here τ e)

    -- it fails: the boats to blame come into the boat's set
    pub step_fails : (u : ℕ) (blame : Boats) → (F.trial tt (take i w) a).verdict ≡ fail blame → (backward ≡ BySets → (j : ℕ) → bit u j ≡ (bit s j || blame j)) →
        step t (steps_over t F backward) (take i w) a here ≡ next trial_of (take i w) (suc a) (state backward (set_words w i u))
    step_fails u blame e f =
        rw (← fell_words backward w i s u blame f) (rw long at (fails t F (take i w) a placed in_choices live backward here blame e))

    -- whichever it does, these are its events
    pub step_tries : (plan : List ℕ) × (choice : ℕ) × (after : State backward) × (step t (steps_over t F backward) (take i w) a here ≡ next trial_of plan choice after)
    step_tries = by (F.trial tt (take i w) a).verdict refl
      where
        by : (v : Verdict (Unit {0})) → (F.trial tt (take i w) a).verdict ≡ v →
            (plan : List ℕ) × (choice : ℕ) × (after : State backward) × (step t (steps_over t F backward) (take i w) a here ≡ next trial_of plan choice after)
        by (pass τ) e = (_, _, _, step_passes τ e)
        by (fail blame) e = (_, _, _, rw long at (fails t F (take i w) a placed in_choices live backward here blame e))

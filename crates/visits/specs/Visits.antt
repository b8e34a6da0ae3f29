-- What a visit of a boat comes to: for any method, and over the words, for a forward move that remembers nothing under both ways back.
use Rattle.std.specs.Prelude.{◌≡◌, List, [], ◌∷◌, ◌++◌, ℕ, ◌^◌, ◌≤◌, ◌<◌, length, take}
use Rattle.problem.specs.Tables.{Tables, boats}
use Rattle.problem.specs.Sane.{Sane}
use Rattle.problem.specs.declared.Allowance.{Allowance}
use Rattle.problem.specs.declared.Allowance.TheVariants.{Checks, Trials}
use Rattle.events.specs.Events.{Event}
use Rattle.events.specs.declared.Counts.{Counts}
use Rattle.events.specs.Counts.{Fits, Makes, StopsIn}
use Rattle.methods.specs.Choices.{choices}
use Rattle.methods.specs.Machine.{Steps, next, step}
use Rattle.methods.specs.GivenUp.{GivenUp}
use Rattle.methods.specs.Moves.{Forward, stepping}
use Rattle.methods.specs.CBJ.{Jumping, jumping}
use Rattle.visits.specs.declared.Backward.{Backward}
use Rattle.visits.specs.declared.Backward.TheVariants.{OneBack, BySets}
use Rattle.visits.specs.declared.Visited.{Visited}
use Rattle.visits.specs.declared.Visited.TheVariants.{Passed, Spent, OutOfChecks, OutOfTrials}
use Rattle.words.specs.Places.{used}
use Rattle.words.specs.Sets.{members_of, set_words}

-- what a visit of boat i goes by: tables that keep every rule, a boat that is there, the words that a run has, and counts within their allowances
pub record Standing (t : Tables) (w : List ℕ) (i : ℕ) (m : Counts) : Type 0 where
  pub sane : Sane t
  pub boat : i < boats t
  pub room : used ≤ length w
  pub fits : Fits m

-- the way back: by one boat, or by conflict sets; and what the method then remembers, from the words of the sets
abbrev pub State : (backward : Backward) → Type 0
State OneBack = Unit {0}
State BySets = Jumping (Unit {0})

abbrev pub steps_over : (t : Tables) → Forward (Unit {0}) → (backward : Backward) → Steps (State backward)
steps_over t F OneBack = stepping F
steps_over t F BySets = jumping t F

abbrev pub state : (backward : Backward) → (ℕ → ℕ) → State backward
state OneBack f = tt
state BySets f = record { sets = members_of f; rest = tt }

-- ---- a visit, for any method: from choice a of the boat at hand on, with σ remembered and the counts m
module _ (t : Tables) {S : Type 0} (M : Steps S) (p : List ℕ) (a : ℕ) (σ : S) (m : Counts) where
  -- the choices before b are given up, by these events; τ is remembered then, and the counts are k
  pub record ComesTo (b : ℕ) (τ : S) (k : Counts) : Type 0 where
    pub events : List Event
    pub given_up : GivenUp t M p a σ events b τ
    pub makes : Makes m events k

  -- it ends with choice b, which passes: υ is remembered after it
  pub record Passes (b : ℕ) (υ : S) (k : Counts) : Type 0 where
    pub inside : b < choices t (length p)
    pub remembered : S
    pub reached : Counts
    pub comes : ComesTo b remembered reached
    pub events : List Event
    pub steps : step t M p b remembered ≡ next events (p ++ (b ∷ [])) 0 υ
    pub makes : Makes reached events k

  -- it ends with no choice left
  pub record Spends (υ : S) (k : Counts) : Type 0 where
    pub last : ℕ
    pub none : choices t (length p) ≤ last
    pub comes : ComesTo last υ k

-- the run ends inside the step at choice b: so many of its events are made, which takes the counts from m to k, and the next finds its allowance used up
pub record StopsAt (t : Tables) {S : Type 0} (M : Steps S) (p : List ℕ) (b : ℕ) (τ : S) (m : Counts) (which : Allowance) (made : ℕ) (k : Counts) : Type 0 where
  pub inside : b < choices t (length p)
  pub events : List Event
  pub plan : List ℕ
  pub choice : ℕ
  pub after : S
  pub steps : step t M p b τ ≡ next events plan choice after
  pub stops : StopsIn m events which made k

-- a visit ends there
pub record RunsOut (t : Tables) {S : Type 0} (M : Steps S) (p : List ℕ) (a : ℕ) (σ : S) (m : Counts) (which : Allowance) (b : ℕ) (τ : S) (made : ℕ) (k : Counts) : Type 0 where
  pub reached : Counts
  pub comes : ComesTo t M p a σ m b τ reached
  pub stops : StopsAt t M p b τ reached which made k

-- ---- a visit of boat i under the words w, over a forward move that remembers nothing: from slot a on, with s as the boat's set
module _ (t : Tables) (F : Forward (Unit {0})) (backward : Backward) (w : List ℕ) (i a s : ℕ) (m : Counts) where
  -- with u as the boat's set, which has boats below i alone
  pub record WithSet (u : ℕ) (K : State backward → Type 0) : Type 0 where
    pub below : u < 2 ^ i
    pub ends : K (state backward (set_words w i u))

  abbrev pub Visits : Visited → Type 0
  Visits (Passed k u b) = WithSet u (λ τ. Passes t (steps_over t F backward) (take i w) a (state backward (set_words w i s)) m b τ k)
  Visits (Spent k u) = WithSet u (λ τ. Spends t (steps_over t F backward) (take i w) a (state backward (set_words w i s)) m τ k)
  Visits (OutOfChecks k u b made) = WithSet u (λ τ. RunsOut t (steps_over t F backward) (take i w) a (state backward (set_words w i s)) m Checks b τ made k)
  Visits (OutOfTrials k u b) = WithSet u (λ τ. RunsOut t (steps_over t F backward) (take i w) a (state backward (set_words w i s)) m Trials b τ 0 k)

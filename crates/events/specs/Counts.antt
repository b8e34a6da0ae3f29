-- The counts beside their allowances: what is due is counted while its allowance covers it.
use Rattle.std.specs.Prelude.{◌≡◌, Bool, true, false, List, ◌∷◌, ◌++◌, ℕ, ◌+◌, ◌-◌, ◌≤◌, ltb, leb, length, Option, Some, None}
use Rattle.problem.specs.declared.Allowance.{Allowance}
use Rattle.problem.specs.declared.Allowance.TheVariants.{Checks, Trials}
use Rattle.events.specs.declared.Counts.{Counts}
use Rattle.events.specs.Events.{Event, trial, check, Search, trials, checks, ◌then◌}
use Rattle.events.specs.Allowances.{Outcome, cut_from}

abbrev pub fresh : (checks trials : ℕ) → Counts
fresh checks trials = record { checks = 0; trials = 0; most_checks = checks; most_trials = trials }

abbrev pub covered : Bool → (within : Counts) → Option Counts
covered true within = Some within
covered false within = None

abbrev pub with_checks : Counts → ℕ → Counts
with_checks m checks = record { checks = checks; trials = m.trials; most_checks = m.most_checks; most_trials = m.most_trials }

abbrev pub with_trials : Counts → ℕ → Counts
with_trials m trials = record { checks = m.checks; trials = trials; most_checks = m.most_checks; most_trials = m.most_trials }

abbrev pub trial_counted : Counts → Option Counts
trial_counted m = covered (ltb m.trials m.most_trials) (with_trials m (m.trials + 1))

abbrev pub check_counted : Counts → Option Counts
check_counted m = covered (ltb m.checks m.most_checks) (with_checks m (m.checks + 1))

-- so many checks, one after the other
abbrev pub checks_counted : Counts → (due : ℕ) → Option Counts
checks_counted m due = covered (leb due (m.most_checks - m.checks)) (with_checks m (m.checks + due))

-- .. and where they are not all covered, as many as the allowance has left: it is used up then
abbrev pub with_all_checks : Counts → Counts
with_all_checks m = with_checks m m.most_checks

-- no count has passed its allowance
pub record Fits (m : Counts) : Type 0 where
  pub checks_fit : m.checks ≤ m.most_checks
  pub trials_fit : m.trials ≤ m.most_trials

-- ---- what was made
-- the counts after some events more
abbrev pub counting : Counts → List Event → Counts
counting m es =
    record { checks = m.checks + checks es; trials = m.trials + trials es; most_checks = m.most_checks; most_trials = m.most_trials }

-- under the counts m the events es are made, all within their allowances, and k are the counts then
pub record Makes (m : Counts) (es : List Event) (k : Counts) : Type 0 where
  pub counted : k ≡ counting m es
  pub fits : Fits k

-- a run with x to come under the counts m has made some events, and has y to come under the counts k
pub record Leads (m : Counts) (x : Search) (k : Counts) (y : Search) : Type 0 where
  pub made : List Event
  pub comes : x ≡ made then y
  pub makes : Makes m made k

-- ---- what is not made
-- what is still to come of a search, under the counts reached
abbrev pub cut_at : Counts → Search → Outcome
cut_at m x = cut_from m.most_checks m.most_trials m.checks m.trials x.events x.ending

-- an event that is due finds its allowance used up, and which one it is
abbrev pub UsedUp : Counts → Event → Allowance → Type 0
UsedUp k (trial i a) which = (which ≡ Trials) × (k.trials ≡ k.most_trials)
UsedUp k (check h x i a) which = (which ≡ Checks) × (k.checks ≡ k.most_checks)

-- of the events es, under the counts m, those before `due` are made, and `due` is not: k are the counts there
pub record StopsIn (m : Counts) (es : List Event) (which : Allowance) (made : ℕ) (k : Counts) : Type 0 where
  pub before : List Event
  pub due : Event
  pub behind : List Event
  pub split : es ≡ before ++ due ∷ behind
  pub count : length before ≡ made
  pub makes : Makes m before k
  pub used_up : UsedUp k due which

-- A search under its allowances: cut before the first event that would pass one. (Document 01, 'Counting'.)
use Rattle.std.specs.Prelude.{true, false, List, [], ◌∷◌, ℕ, suc, eqb}
use Rattle.problem.specs.declared.Allowance.{Allowance}
use Rattle.problem.specs.declared.Allowance.TheVariants.{Checks, Trials}
use Rattle.events.specs.Events.{Event, trial, check, Ending, Search}

-- decided, with the search's own ending; or undecided, by the allowance that ran out
pub data Decision : Type 0 where
  decided : Ending → Decision
  undecided : Allowance → Decision

-- what is known at the end, and both counts reached
pub record Outcome : Type 0 where
  pub decision : Decision
  pub checks : ℕ
  pub trials : ℕ

abbrev pub outcome : Decision → (checks trials : ℕ) → Outcome
outcome d checks trials = record { decision = d; checks = checks; trials = trials }

-- the allowances are ca checks and ta trials; c checks and t trials have been made, and the events are still to come.
-- Before a trial, if the trials made equal their allowance, stop. Before a check, the same with checks
unfoldable pub cut_from : (ca ta c t : ℕ) → List Event → Ending → Outcome
cut_from ca ta c t [] r = outcome (decided r) c t
cut_from ca ta c t (trial i a ∷ es) r = elim (eqb t ta) [ true ↦ outcome (undecided Trials) c t | false ↦ cut_from ca ta c (suc t) es r ]
cut_from ca ta c t (check h x i a ∷ es) r = elim (eqb c ca) [ true ↦ outcome (undecided Checks) c t | false ↦ cut_from ca ta (suc c) t es r ]

-- a whole search under its allowances
unfoldable pub cut : (ca ta : ℕ) → Search → Outcome
cut ca ta s = cut_from ca ta 0 0 s.events s.ending

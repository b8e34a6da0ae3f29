-- How a search ends, as counts and a decision.
use Rattle.std.specs.Prelude.{List, ℕ}
use Rattle.events.specs.Events.{solved, no_plan}
use Rattle.events.specs.Allowances.{Decision, decided, undecided}
use Rattle.events.specs.declared.Counts.{Counts}
use Rattle.ends.specs.declared.Ended.{Ended}
use Rattle.ends.specs.declared.Ended.TheVariants.{Solved, NoPlan, Undecided}

-- the counts at an end, and the decision, where the boats hold the slots p
abbrev pub counts_then : Ended → Counts
counts_then (Solved k) = k
counts_then (NoPlan k) = k
counts_then (Undecided k which at) = k

abbrev pub decision_then : Ended → (p : List ℕ) → Decision
decision_then (Solved k) p = decided (solved p)
decision_then (NoPlan k) p = decided no_plan
decision_then (Undecided k which at) p = undecided which

-- One look at a placed boat that is listed.
use Rattle.std.specs.Prelude.{Bool, true, false, Option, Some, None}
use Rattle.events.specs.declared.Counts.{Counts}
use Rattle.visits.specs.declared.Look.{Look}
use Rattle.visits.specs.declared.Look.TheVariants.{Allowed, Forbidden, OutOfChecks}

-- a check that is counted goes on where the pair allows, and leaves the trial where it does not
abbrev pub checked_look : (allows : Bool) → Option Counts → Look
checked_look true (Some k) = Allowed k
checked_look false (Some k) = Forbidden k
checked_look allows None = OutOfChecks

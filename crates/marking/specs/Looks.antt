-- One look at a placed boat.
use Rattle.std.specs.Prelude.{Bool, ℕ, zero, suc}
use Rattle.events.specs.declared.Counts.{Counts}
use Rattle.events.specs.Counts.{check_counted}
use Rattle.visits.specs.declared.Look.{Look}
use Rattle.visits.specs.declared.Look.TheVariants.{Allowed}
use Rattle.visits.specs.Looks.{checked_look}

-- a look by the index word of the pair: that of an unlisted pair is 0, and it costs no check
abbrev pub looked_at : (index : ℕ) → (allows : Bool) → Counts → Look
looked_at zero allows m = Allowed m
looked_at (suc start) allows m = checked_look allows (check_counted m)

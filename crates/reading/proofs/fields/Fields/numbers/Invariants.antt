-- No field read makes what is left longer.
use Rattle.std.proofs.Common.{◌≤◌, length}
use Rattle.reading.proofs.fields.Fields.numbers.Given as goal

abbrev pub invariant-loop-number : goal.invariant-loop-number
invariant-loop-number g l = length l.self ≤ length l.initial.self

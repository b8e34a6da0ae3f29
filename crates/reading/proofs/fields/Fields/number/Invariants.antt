-- The text is passed over only by digits; what is left of it falls.
use Rattle.std.proofs.Common.{◌≡◌, ◌<◌, length, IfNone, OnSome}
use Rattle.reading.proofs.fields.Fields.number.Given as goal

abbrev pub invariant-loop-digit : goal.invariant-loop-digit
invariant-loop-digit l = IfNone l.value (l.self ≡ l.initial.self) × OnSome l.value (length l.self < length l.initial.self)

abbrev pub decreases-loop-digit : goal.decreases-loop-digit
decreases-loop-digit l = length l.self

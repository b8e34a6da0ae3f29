-- What the looks at the pairs find.
use Rattle.std.specs.Prelude.{◌≡◌, true, false, ◌≤◌, ◌<◌, Result, Ok, Err}
use Rattle.problem.specs.Replies.{refusal_told}
use Rattle.problem.specs.declared.Refusal.{Refusal}
use Rattle.tables.specs.Tests.{Fault, says, Test, found}

-- at one of them: no cause, or the refusal of the fault there
abbrev pub IsWay : Result Unit Refusal → Fault → Type 0
IsWay (Ok good) f = f.cause ≡ false
IsWay (Err why) f = (f.cause ≡ true) × (refusal_told why ≡ says f)

-- at all that a test looks at: no cause anywhere, or the refusal of the fault at the lowest
abbrev pub IsFirst : Result Unit Refusal → Test → Type 0
IsFirst (Ok good) test = test.count ≤ found test
IsFirst (Err why) test = (found test < test.count) × (refusal_told why ≡ says (test.at (found test)))

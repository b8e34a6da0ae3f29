-- What the exported functions hand over, from what the operations say on paper.
use mathlib.Core.Path.{◌≡◌, ap}
use mathlib.Core.Bool.{false}
use Prim.Native.Nat.{◌+◌, ◌≤◌}
use native.Mathlib.Omega.{arith}
use borrow.Author.Tests.{ne_eqb}
use Rattle.problem.specs.Replies.{refusal_number, refusal_place, refusal_told}
use Rattle.problem.specs.declared.Refusal.{Refusal}
use Rattle.problem.specs.declared.Refusal.TheVariants.{Method, Boats, Size, PairBytes, PairNoBoat, PairSameBoat, PairHigherFirst, PairNotRising, RowWords, RowBit, PlanMemory, WorkMemory, GivenLength, GivenSlot, Mark, FileEnd, FileBoat, FileCount, FileRest, Room}
use Rattle.handing.specs.Handed.{fine_or_refused, length_or_place, handed_written}

-- the largest number is 54, so that 100 can be added
pub number_small : (why : Refusal) → refusal_number why ≤ 54
number_small Method = omega arith
number_small Boats = omega arith
number_small (Size boat) = omega arith
number_small PairBytes = omega arith
number_small (PairNoBoat byte) = omega arith
number_small (PairSameBoat byte) = omega arith
number_small (PairHigherFirst byte) = omega arith
number_small (PairNotRising byte) = omega arith
number_small RowWords = omega arith
number_small (RowBit word) = omega arith
number_small PlanMemory = omega arith
number_small WorkMemory = omega arith
number_small GivenLength = omega arith
number_small (GivenSlot boat) = omega arith
number_small (Mark byte) = omega arith
number_small (FileEnd byte) = omega arith
number_small (FileBoat byte) = omega arith
number_small (FileCount byte) = omega arith
number_small (FileRest byte) = omega arith
number_small Room = omega arith

-- a refusal is not taken for fine tables
pub refusal_stays : (why : Refusal) → fine_or_refused (refusal_told why) ≡ refusal_told why
refusal_stays why = rw (fine_or_refused, ne_eqb (100 + refusal_number why) 0 (omega arith))

-- .. nor for a file's length
pub refusal_written : (why : Refusal) → handed_written (refusal_told why) ≡ length_or_place false (100 + refusal_number why) (refusal_place why)
refusal_written why = ap (λ b. length_or_place b (100 + refusal_number why) (refusal_place why)) (ne_eqb (100 + refusal_number why) 0 (omega arith))

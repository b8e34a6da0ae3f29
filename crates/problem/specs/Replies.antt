-- What each reply says on paper: the number and the values that documents 01 and 02 give it. (Document 01, 'Numbers given back'; document 02, No. 1 and No. 2.)
use Rattle.std.specs.Prelude.{List, [], ◌∷◌, ℕ, ◌+◌}
use Rattle.problem.specs.declared.Refusal.{Refusal}
use Rattle.problem.specs.declared.Refusal.TheVariants.{Method, Boats, Size, PairBytes, PairNoBoat, PairSameBoat, PairHigherFirst, PairNotRising, RowWords, RowBit, PlanMemory, WorkMemory, GivenLength, GivenSlot, Mark, FileEnd, FileBoat, FileCount, FileRest, Room}
use Rattle.problem.specs.declared.Allowance.TheVariants.{Checks, Trials}
use Rattle.problem.specs.declared.Answer.{Answer}
use Rattle.problem.specs.declared.Answer.TheVariants.{Solved, NoPlan, Undecided, Refused}
use Rattle.problem.specs.declared.Reply.{Reply}

-- ---- a refusal's number, and its place
abbrev pub refusal_number : Refusal → ℕ
refusal_number Method = 1
refusal_number Boats = 2
refusal_number (Size boat) = 3
refusal_number PairBytes = 4
refusal_number (PairNoBoat byte) = 51
refusal_number (PairSameBoat byte) = 52
refusal_number (PairHigherFirst byte) = 53
refusal_number (PairNotRising byte) = 54
refusal_number RowWords = 6
refusal_number (RowBit word) = 7
refusal_number PlanMemory = 8
refusal_number WorkMemory = 9
refusal_number GivenLength = 10
refusal_number (GivenSlot boat) = 11
refusal_number (Mark byte) = 21
refusal_number (FileEnd byte) = 22
refusal_number (FileBoat byte) = 23
refusal_number (FileCount byte) = 24
refusal_number (FileRest byte) = 25
refusal_number Room = 26

abbrev pub refusal_place : Refusal → ℕ
refusal_place Method = 0
refusal_place Boats = 0
refusal_place (Size boat) = boat
refusal_place PairBytes = 0
refusal_place (PairNoBoat byte) = byte
refusal_place (PairSameBoat byte) = byte
refusal_place (PairHigherFirst byte) = byte
refusal_place (PairNotRising byte) = byte
refusal_place RowWords = 0
refusal_place (RowBit word) = word
refusal_place PlanMemory = 0
refusal_place WorkMemory = 0
refusal_place GivenLength = 0
refusal_place (GivenSlot boat) = boat
refusal_place (Mark byte) = byte
refusal_place (FileEnd byte) = byte
refusal_place (FileBoat byte) = byte
refusal_place (FileCount byte) = byte
refusal_place (FileRest byte) = byte
refusal_place Room = 0

-- ---- any reply: a number, and its values. A refusal counts from 100, so that its number is no other reply's
pub record Told : Type 0 where
  pub number : ℕ
  pub values : List ℕ

abbrev pub told : ℕ → List ℕ → Told
told number values = record { number = number; values = values }

abbrev pub refused : (number place : ℕ) → Told
refused number place = told (100 + number) (place ∷ [])

abbrev pub refusal_told : Refusal → Told
refusal_told why = refused (refusal_number why) (refusal_place why)

-- ---- the answer of a run
abbrev pub answer_told : Answer → Told
answer_told Solved = told 0 []
answer_told NoPlan = told 1 []
answer_told (Undecided Checks) = told 2 []
answer_told (Undecided Trials) = told 3 []
answer_told (Refused why) = refusal_told why

-- a refusal as a run's reply
abbrev pub refused_reply : Refusal → Reply
refused_reply why = record { answer = Refused why; checks = 0; trials = 0 }

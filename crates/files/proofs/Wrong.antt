-- Wrong programs of any shape, each with a file and lent memory on which the promise refuses what it leaves.
use mathlib.Core.Path.{◌≡◌, refl, ap}
use mathlib.Core.List.{[], ◌∷◌, ◌++◌}
use Prim.Native.Nat.{ℕ}
use borrow.Author.Tests.{eqb-false}
use lib.ListN.{get_or}
use Rattle.problem.specs.Lowest.{lowest_from, lowest, sum}
use Rattle.problem.specs.Tables.{tables, start}
use Rattle.problem.specs.Replies.{Told, told, refused}
use Rattle.tables.specs.Tests.{first_of}
use Rattle.tables.specs.Examination.{pair_of_word, bad_word, first_way_bad, examination}
use Rattle.questions.specs.Questions.{lawful_question}
use Rattle.files.specs.Rooms.{Rooms, rooms}
use Rattle.files.specs.Reader.{read_result, desk_result}
use Rattle.files.specs.Writer.{write_answer}
use Rattle.files.specs.Cases.{means, written, two_file, slotless, enough}

number : Told → ℕ
number w = w.number

first_size : Rooms → ℕ
first_size m = get_or m.sizes 0 0

-- one that examines what it reads before it asks for room
pub examines_before_26 : refused 3 0 ≡ (read_result slotless (rooms [] [] [])).answer → ⊥
unfolding read_result means number
examines_before_26 e = eqb-false 103 126 refl (ap number e)

-- one whose writer asks for room before it examines
pub room_before_examination : refused 26 0 ≡ write_answer (tables (0 ∷ []) [] []) [] → ⊥
unfolding write_answer written first_of lowest lowest_from number
room_before_examination e = eqb-false 126 103 refl (ap number e)

-- one that has written the sizes before it comes to a fault, to a byte after ED
pub writes_before_a_fault : rooms (1 ∷ 1 ∷ []) (7 ∷ 7 ∷ []) (7 ∷ []) ≡ (read_result (two_file ++ (0 ∷ [])) enough).rooms → ⊥
unfolding read_result means first_size
writes_before_a_fault e = eqb-false 1 7 refl (ap first_size e)

-- .. or before it finds that there is no room for the rows
pub writes_before_26 : rooms (1 ∷ 1 ∷ []) (7 ∷ 7 ∷ []) [] ≡ (read_result two_file (rooms (7 ∷ 7 ∷ []) (7 ∷ 7 ∷ []) [])).rooms → ⊥
unfolding read_result means first_size
writes_before_26 e = eqb-false 1 7 refl (ap first_size e)

-- one that takes the tables back where the examination refuses them
pub refusal_undoes_tables : rooms (7 ∷ []) [] [] ≡ (read_result slotless (rooms (7 ∷ []) [] [])).rooms → ⊥
unfolding read_result means first_size
refusal_undoes_tables e = eqb-false 7 0 refl (ap first_size e)

-- .. or where the plan is refused: it has no byte, and 10 applies
pub plan_undoes_tables : enough ≡ (desk_result two_file [] enough).rooms → ⊥
unfolding desk_result means first_size
plan_undoes_tables e = eqb-false 7 1 refl (ap first_size e)

-- one that says no where a plan is refused
pub refused_plan_as_no : told 1 [] ≡ (desk_result two_file [] enough).answer → ⊥
unfolding desk_result means lawful_question examination first_of lowest lowest_from start sum first_way_bad bad_word pair_of_word number
refused_plan_as_no e = eqb-false 1 110 refl (ap number e)

-- one that says no where the file is refused: it has no byte
pub refused_file_as_no : told 1 [] ≡ (desk_result [] (0 ∷ []) enough).answer → ⊥
unfolding desk_result means number
refused_file_as_no e = eqb-false 1 122 refl (ap number e)

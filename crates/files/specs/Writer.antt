-- What the writer leaves: the examination, then 26, then the file. (Document 02, No. 2.)
use Rattle.std.specs.Prelude.{Bool, true, false, List, [], ◌∷◌, ◌++◌, ℕ, eqb, length}
use Rattle.problem.specs.Tables.{Tables}
use Rattle.problem.specs.Replies.{Told, told}
use Rattle.tables.specs.Tests.{Test, once, first_of}
use Rattle.tables.specs.Examination.{tests}
use Rattle.files.specs.File.{file_of}
use Rattle.files.specs.Rooms.{too_short, covering}

-- the writer begins with the examination; last 26, lent memory too small for the file
abbrev pub write_tests : Tables → (room : List ℕ) → List Test
write_tests t room = tests t ++ (once 26 (too_short room (file_of t)) ∷ [])

-- where none applies: number 0, with the file's length
unfoldable pub write_answer : Tables → (room : List ℕ) → Told
write_answer t room = first_of (write_tests t room) (told 0 (length (file_of t) ∷ []))

-- the lent memory afterwards: the file, and the bytes after it as they were; as it was where the writer refuses
abbrev pub file_or : (written : Bool) → Tables → List ℕ → List ℕ
file_or true t room = covering (file_of t) room
file_or false t room = room

unfoldable pub written_room : Tables → (room : List ℕ) → List ℕ
written_room t room = file_or (eqb (write_answer t room).number 0) t room

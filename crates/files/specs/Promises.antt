-- What the laws on the file say of a reading, of what the reader leaves and of what the writer leaves. (Document 02, No. 2.)
use Rattle.std.specs.Prelude.{◌≡◌, true, false, List, [], ◌∷◌, ℕ, ◌≤◌, length, take}
use Rattle.problem.specs.Tables.{Tables}
use Rattle.problem.specs.Plans.{Lawful}
use Rattle.problem.specs.Replies.{Told, told}
use Rattle.tables.specs.Examination.{examination, Fine}
use Rattle.files.specs.File.{file_of}
use Rattle.files.specs.Reading.{Reading, fault, read, reading}
use Rattle.files.specs.Rooms.{Rooms, too_short, too_small, covering}
use Rattle.files.specs.Reader.{Result, standing_result, read_result}
use Rattle.files.specs.Writer.{write_answer, written_room}

-- ---- a reading: another number than 22, or tables
abbrev pub NotCut : Reading → Type 0
NotCut (fault number place after) = number ≡ 22 → ⊥
NotCut (read t) = Unit {0}

-- ---- the reader
-- 21 to 26, as a refusal has them on paper
abbrev pub OfFile : ℕ → Type 0
OfFile number = (121 ≤ number) × (number ≤ 126)

-- nothing is written
pub record Untouched (m : Rooms) (r : Result) : Type 0 where
  pub rooms : r.rooms ≡ m
  pub boats : r.boats ≡ 0
  pub pair_bytes : r.pair_bytes ≡ 0
  pub row_words : r.row_words ≡ 0

-- the lent parts keep their lengths
pub record SameLengths (m : Rooms) (r : Result) : Type 0 where
  pub sizes : length r.rooms.sizes ≡ length m.sizes
  pub pairs : length r.rooms.pairs ≡ length m.pairs
  pub rows : length r.rooms.rows ≡ length m.rows

-- the file is read, and a part of the lent memory is too short
pub record TooSmall (file : List ℕ) (m : Rooms) : Type 0 where
  pub t : Tables
  pub is_read : reading file ≡ read t
  pub short : too_small m t ≡ true

-- the file is read, the lent memory is enough, and the tables stand there
pub record Stands (ask : Tables → Told) (file : List ℕ) (m : Rooms) (r : Result) : Type 0 where
  pub t : Tables
  pub is_read : reading file ≡ read t
  pub enough : too_small m t ≡ false
  pub is : r ≡ standing_result ask t m

-- the bytes are the file of tables that pass the examination, and these stand in the lent memory
pub record FineFile (file : List ℕ) (m : Rooms) : Type 0 where
  pub t : Tables
  pub fine : Fine t
  pub is_file : file_of t ≡ file
  pub is : read_result file m ≡ standing_result examination t m

-- ---- the desk's question: the file is read, the memory is enough, the tables are fine and the plan is lawful by them
pub record LawfulByFile (file given : List ℕ) (m : Rooms) : Type 0 where
  pub t : Tables
  pub is_read : reading file ≡ read t
  pub enough : too_small m t ≡ false
  pub fine : Fine t
  pub lawful : Lawful t given

-- ---- the writer: what it says, and what it leaves
pub record Left (t : Tables) (room : List ℕ) (answer : Told) (after : List ℕ) : Type 0 where
  pub says : write_answer t room ≡ answer
  pub leaves : written_room t room ≡ after

-- the tables pass the examination, and the memory is shorter than their file
pub record RoomShort (t : Tables) (room : List ℕ) : Type 0 where
  pub fine : Fine t
  pub short : too_short room (file_of t) ≡ true

-- they pass the examination, the memory is enough, and what stands first in it is then their file
pub record FileWritten (t : Tables) (room : List ℕ) : Type 0 where
  pub fine : Fine t
  pub enough : too_short room (file_of t) ≡ false
  pub left : Left t room (told 0 (length (file_of t) ∷ [])) (covering (file_of t) room)
  pub first : take (length (file_of t)) (written_room t room) ≡ file_of t

-- Files worked out by hand, and what is to come of each. (Document 02, No. 2. What the definitions say of them is computed in proofs/Cases.antt.)
use Rattle.std.specs.Prelude.{List, [], ◌∷◌, ◌++◌, ℕ}
use Rattle.problem.specs.Lowest.{sum}
use Rattle.problem.specs.Tables.{Tables, tables, start}
use Rattle.problem.specs.Replies.{Told, told, refused}
use Rattle.files.specs.Bytes.{bytes_of, number, words_of, joined}
use Rattle.files.specs.File.{SZ, PR, ED, sizes_record, pair_record, end_record, file_of}
use Rattle.files.specs.Reading.{Reading, fault, read, sizes_rest, words_rest, pair_rest, end_rest, same, after_mark, read_rest, read_records, read_from, reading, nothing}
use Rattle.files.specs.Rooms.{Rooms, rooms}
use Rattle.files.specs.Reader.{Result}

-- what is written, and what is read. (To unfold these is to unfold all that their lines name)
unfoldable pub written : Tables → List ℕ
unfolding file_of sizes_record pair_record end_record joined bytes_of start sum
written t = file_of t

unfoldable pub means : List ℕ → Reading
unfolding reading read_from read_records read_rest after_mark same sizes_rest words_rest pair_rest end_rest number words_of
means file = reading file

-- ---- the document's file: two boats of size 1, their pair listed and allowed
abbrev pub two : Tables
two = tables (1 ∷ 1 ∷ []) (0 ∷ 1 ∷ []) (1 ∷ [])

abbrev pub two_file : List ℕ
two_file =
    0x53 ∷ 0x5A ∷ 0x02 ∷ 0x01 ∷ 0x01
    ∷ 0x50 ∷ 0x52 ∷ 0x00 ∷ 0x01 ∷ 0x01 ∷ 0x00 ∷ 0x00 ∷ 0x00 ∷ 0x00 ∷ 0x00 ∷ 0x00 ∷ 0x00
    ∷ 0x45 ∷ 0x44 ∷ 0x01 ∷ 0x00 ∷ []

-- two slots below one: a word for each slot of the lower boat
abbrev pub wide : Tables
wide = tables (2 ∷ 1 ∷ []) (0 ∷ 1 ∷ []) (1 ∷ 0x0302 ∷ [])

-- ---- a file, and what is to come of it
pub record Case : Type 0 where
  pub file : List ℕ
  pub expected : Reading

abbrev pub case : List ℕ → Reading → Case
case file expected = record { file = file; expected = expected }

-- two boats of size 1: their SZ, and a PR of theirs
abbrev pub sizes2 : List ℕ
sizes2 = SZ ++ (2 ∷ 1 ∷ 1 ∷ [])

abbrev pub pair_of : (lower higher low : ℕ) → List ℕ
pair_of lower higher low = PR ++ (lower ∷ higher ∷ low ∷ 0 ∷ 0 ∷ 0 ∷ 0 ∷ 0 ∷ 0 ∷ 0 ∷ [])

abbrev pub end_of : (low high : ℕ) → List ℕ
end_of low high = ED ++ (low ∷ high ∷ [])

unfoldable pub file_cases : List Case
file_cases =
    -- 22: no byte, half a mark, a mark alone, a boat short of its sizes, no ED, a PR cut before and inside its words, a count cut although it is wrong
    case [] (fault 22 0 0)
    ∷ case (0x58 ∷ []) (fault 22 1 1)
    ∷ case SZ (fault 22 2 2)
    ∷ case (SZ ++ (2 ∷ 1 ∷ [])) (fault 22 4 4)
    ∷ case sizes2 (fault 22 5 5)
    ∷ case (sizes2 ++ PR) (fault 22 7 7)
    ∷ case (sizes2 ++ (PR ++ (0 ∷ 1 ∷ 1 ∷ []))) (fault 22 10 10)
    ∷ case (sizes2 ++ (ED ++ (1 ∷ []))) (fault 22 8 8)
    -- 21: a mark that none is, a PR first, a second SZ, an ED first
    ∷ case (0x58 ∷ 0x58 ∷ []) (fault 21 0 2)
    ∷ case (pair_of 0 1 1) (fault 21 0 2)
    ∷ case (sizes2 ++ sizes2) (fault 21 5 7)
    ∷ case (end_of 0 0) (fault 21 0 2)
    -- 23: the lower boat isn't in SZ, also where the file ends after it; of the higher boat the reader says nothing
    ∷ case (sizes2 ++ pair_of 9 1 1) (fault 23 7 8)
    ∷ case (sizes2 ++ (PR ++ (2 ∷ []))) (fault 23 7 8)
    ∷ case (sizes2 ++ (pair_of 0 9 1 ++ end_of 1 0)) (read (tables (1 ∷ 1 ∷ []) (0 ∷ 9 ∷ []) (1 ∷ [])))
    -- 24: a wrong count, also where bytes come after it; low byte first
    ∷ case (sizes2 ++ (pair_of 0 1 1 ++ end_of 2 0)) (fault 24 19 21)
    ∷ case (sizes2 ++ (pair_of 0 1 1 ++ (end_of 0 1 ++ (0 ∷ [])))) (fault 24 19 21)
    -- 25: bytes after ED, a PR too
    ∷ case (two_file ++ (0 ∷ [])) (fault 25 21 22)
    ∷ case (two_file ++ pair_of 0 1 1) (fault 25 21 22)
    -- read: a word for each slot of the lower boat, low byte first, whatever the higher boat's size is
    ∷ case (SZ ++ (2 ∷ 2 ∷ 1 ∷ (pair_of 0 1 1 ++ (2 ∷ 3 ∷ 0 ∷ 0 ∷ 0 ∷ 0 ∷ 0 ∷ 4 ∷ end_of 1 0)))) (read (tables (2 ∷ 1 ∷ []) (0 ∷ 1 ∷ []) (1 ∷ 0x0400000000000302 ∷ [])))
    ∷ case (SZ ++ (2 ∷ 1 ∷ 2 ∷ (pair_of 0 1 1 ++ end_of 1 0))) (read (tables (1 ∷ 2 ∷ []) (0 ∷ 1 ∷ []) (1 ∷ [])))
    -- read: no boat; a size of 0 and of 255; pairs out of order and twice, which the examination refuses
    ∷ case (SZ ++ (0 ∷ end_of 0 0)) (read nothing)
    ∷ case (SZ ++ (2 ∷ 0 ∷ 255 ∷ (PR ++ (0 ∷ 1 ∷ end_of 1 0)))) (read (tables (0 ∷ 255 ∷ []) (0 ∷ 1 ∷ []) []))
    ∷ case (sizes2 ++ (pair_of 1 0 3 ++ (pair_of 0 1 2 ++ end_of 2 0))) (read (tables (1 ∷ 1 ∷ []) (1 ∷ 0 ∷ 0 ∷ 1 ∷ []) (3 ∷ 2 ∷ [])))
    ∷ case (sizes2 ++ (pair_of 0 1 2 ++ (pair_of 0 1 2 ++ end_of 2 0))) (read (tables (1 ∷ 1 ∷ []) (0 ∷ 1 ∷ 0 ∷ 1 ∷ []) (2 ∷ 2 ∷ [])))
    ∷ []

-- ---- a file read into lent memory, and all that is to come of it
pub record ReadCase : Type 0 where
  pub file : List ℕ
  pub lent : Rooms
  pub left : Result

abbrev pub read_case : List ℕ → Rooms → Result → ReadCase
read_case file lent left = record { file = file; lent = lent; left = left }

abbrev pub leaves : (answer : Told) (boats pair_bytes row_words : ℕ) → Rooms → Result
leaves answer boats pair_bytes row_words m = record { answer = answer; boats = boats; pair_bytes = pair_bytes; row_words = row_words; rooms = m }

-- a boat without a slot: the file is read, and 3 applies to its tables
abbrev pub slotless : List ℕ
slotless = SZ ++ (1 ∷ 0 ∷ end_of 0 0)

unfoldable pub read_cases : List ReadCase
read_cases =
    -- just enough memory, and more of it
    read_case two_file (rooms (7 ∷ 7 ∷ []) (7 ∷ 7 ∷ []) (7 ∷ [])) (leaves (told 0 (2 ∷ 1 ∷ 1 ∷ [])) 2 2 1 (rooms (1 ∷ 1 ∷ []) (0 ∷ 1 ∷ []) (1 ∷ [])))
    ∷ read_case two_file (rooms (7 ∷ 8 ∷ 9 ∷ []) (7 ∷ 8 ∷ 9 ∷ []) (7 ∷ 8 ∷ [])) (leaves (told 0 (2 ∷ 1 ∷ 1 ∷ [])) 2 2 1 (rooms (1 ∷ 1 ∷ 9 ∷ []) (0 ∷ 1 ∷ 9 ∷ []) (1 ∷ 8 ∷ [])))
    -- 26: one part too short, however long the others are
    ∷ read_case two_file (rooms (7 ∷ []) (7 ∷ 7 ∷ 7 ∷ []) (7 ∷ 7 ∷ [])) (leaves (refused 26 0) 0 0 0 (rooms (7 ∷ []) (7 ∷ 7 ∷ 7 ∷ []) (7 ∷ 7 ∷ [])))
    ∷ read_case two_file (rooms (7 ∷ 7 ∷ 7 ∷ []) (7 ∷ []) (7 ∷ 7 ∷ [])) (leaves (refused 26 0) 0 0 0 (rooms (7 ∷ 7 ∷ 7 ∷ []) (7 ∷ []) (7 ∷ 7 ∷ [])))
    ∷ read_case two_file (rooms (7 ∷ 7 ∷ 7 ∷ []) (7 ∷ 7 ∷ 7 ∷ []) []) (leaves (refused 26 0) 0 0 0 (rooms (7 ∷ 7 ∷ 7 ∷ []) (7 ∷ 7 ∷ 7 ∷ []) []))
    -- 26 before the examination; then its refusal, and the tables stand
    ∷ read_case slotless (rooms [] [] []) (leaves (refused 26 0) 0 0 0 (rooms [] [] []))
    ∷ read_case slotless (rooms (7 ∷ []) [] []) (leaves (refused 3 0) 1 0 0 (rooms (0 ∷ []) [] []))
    -- a fault before 26
    ∷ read_case (two_file ++ (0 ∷ [])) (rooms (7 ∷ []) [] []) (leaves (refused 25 21) 0 0 0 (rooms (7 ∷ []) [] []))
    ∷ []

-- ---- the desk's question of a file and a plan, with memory enough for two boats, one pair and one row, and its answer
pub record DeskCase : Type 0 where
  pub file : List ℕ
  pub given : List ℕ
  pub answer : Told

abbrev pub desk_case : List ℕ → List ℕ → Told → DeskCase
desk_case file given answer = record { file = file; given = given; answer = answer }

abbrev pub enough : Rooms
enough = rooms (7 ∷ 7 ∷ []) (7 ∷ 7 ∷ []) (7 ∷ [])

unfoldable pub desk_cases : List DeskCase
desk_cases =
    -- yes; no, where the pair's row is empty
    desk_case two_file (0 ∷ 0 ∷ []) (told 0 [])
    ∷ desk_case (sizes2 ++ (pair_of 0 1 0 ++ end_of 1 0)) (0 ∷ 0 ∷ []) (told 1 [])
    -- the plan's refusals: its length, then its slots
    ∷ desk_case two_file (0 ∷ []) (refused 10 0)
    ∷ desk_case two_file (0 ∷ 1 ∷ []) (refused 11 1)
    -- the file's, and the examination's, before the plan's
    ∷ desk_case (0x58 ∷ []) [] (refused 22 1)
    ∷ desk_case (SZ ++ (3 ∷ 1 ∷ 1 ∷ 1 ∷ end_of 0 0)) [] (refused 26 0)
    ∷ desk_case slotless [] (refused 3 0)
    ∷ []

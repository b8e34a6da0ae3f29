-- What the reader and the desk's question leave: the answer, how much is written where, and the lent memory. (Document 02, No. 2.)
use Rattle.std.specs.Prelude.{Bool, true, false, List, ℕ, length}
use Rattle.problem.specs.Tables.{Tables, boats}
use Rattle.problem.specs.Replies.{Told, refused}
use Rattle.tables.specs.Examination.{examination}
use Rattle.questions.specs.Questions.{lawful_question}
use Rattle.files.specs.Reading.{Reading, fault, read, reading}
use Rattle.files.specs.Rooms.{Rooms, too_small, holding}

-- the answer on paper; how many bytes of sizes, bytes of pairs and words of rows are written; the lent memory afterwards
pub record Result : Type 0 where
  pub answer : Told
  pub boats : ℕ
  pub pair_bytes : ℕ
  pub row_words : ℕ
  pub rooms : Rooms

-- 21 to 26: nothing is written
abbrev pub refused_result : (number place : ℕ) → Rooms → Result
refused_result number place m = record { answer = refused number place; boats = 0; pair_bytes = 0; row_words = 0; rooms = m }

-- the tables are written, and then asked about; whatever the answer is, they stand
abbrev pub standing_result : (ask : Tables → Told) → Tables → Rooms → Result
standing_result ask t m =
    record { answer = ask t; boats = boats t; pair_bytes = length t.pairs; row_words = length t.rows; rooms = holding t m }

abbrev pub unless_small : Bool → (ask : Tables → Told) → Tables → Rooms → Result
unless_small true ask t m = refused_result 26 0 m
unless_small false ask t m = standing_result ask t m

-- the first fault in the bytes, 21 to 25; last 26; then what is asked of the tables as read
abbrev pub result_of : (ask : Tables → Told) → Reading → Rooms → Result
result_of ask (fault number place after) m = refused_result number place m
result_of ask (read t) m = unless_small (too_small m t) ask t m

-- the reader: 01's examination applies to the tables as read
unfoldable pub read_result : (file : List ℕ) → Rooms → Result
read_result file m = result_of examination (reading file) m

-- the desk's question: is the plan lawful? The examination, then 10 and 11, then 0: yes, or 1: no
unfoldable pub desk_result : (file given : List ℕ) → Rooms → Result
desk_result file given m = result_of (λ t. lawful_question t given) (reading file) m

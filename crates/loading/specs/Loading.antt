-- What the second pass is given and leaves, and what both passes leave in lent memory.
use Rattle.std.specs.Prelude.{◌≡◌, Ok, Err, List, [], ℕ, ◌+◌, ◌*◌, ◌≤◌, length}
use Rattle.problem.specs.Tables.{Tables}
use Rattle.problem.specs.Replies.{Told, told, refusal_number, refusal_place}
use Rattle.files.specs.Reading.{read, reading}
use Rattle.files.specs.Rooms.{Rooms, rooms, covering}
use Rattle.files.specs.Reader.{Result, refused_result, result_of}
use Rattle.scanning.specs.Scanning.{from_sizes}
use Rattle.std.specs.Prelude.{Result as Found}
use Rattle.problem.specs.declared.Problem.{Problem}
use Rattle.problem.specs.declared.Refusal.{Refusal}

-- the file is read, and the lent parts are long enough
pub record Fitting (file : List ℕ) (boats pair_room row_room : ℕ) : Type 0 where
  pub front : 3 + boats ≤ length file
  pub tables : Tables
  pub is_read : from_sizes file boats ≡ read tables
  pub pairs_fit : length tables.pairs ≤ pair_room
  pub rows_fit : length tables.rows ≤ row_room

-- the tables' pairs and rows are written
pub record Filled (file : List ℕ) (boats : ℕ) (pairs₀ rows₀ pairs rows : List ℕ) : Type 0 where
  pub pairs_written : (t : Tables) → from_sizes file boats ≡ read t → pairs ≡ covering t.pairs pairs₀
  pub rows_written : (t : Tables) → from_sizes file boats ≡ read t → rows ≡ covering t.rows rows₀

-- nothing is asked of the tables yet
abbrev pub unasked : Tables → Told
unasked t = told 0 []

-- what is found in a file, with the lent memory, as what the reader leaves
abbrev pub found : Found Problem Refusal → Rooms → Result
found (Ok p) m = record { answer = told 0 []; boats = p.boats; pair_bytes = 2 * p.pairs; row_words = p.words; rooms = m }
found (Err why) m = refused_result (refusal_number why) (refusal_place why) m

abbrev pub Loads : (file sizes₀ pairs₀ rows₀ : List ℕ) → Found Problem Refusal → (sizes pairs rows : List ℕ) → Type 0
Loads file sizes₀ pairs₀ rows₀ r sizes pairs rows = found r (rooms sizes pairs rows) ≡ result_of unasked (reading file) (rooms sizes₀ pairs₀ rows₀)

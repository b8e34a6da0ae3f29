-- What the writer leaves.
use Rattle.std.specs.Prelude.{◌≡◌, Result, List, ℕ}
use Rattle.problem.specs.Tables.{Tables}
use Rattle.problem.specs.declared.Refusal.{Refusal}
use Rattle.files.specs.Writer.{write_answer, written_room}
use Rattle.writer.specs.Replies.{written_told}

-- its answer, and the lent memory afterwards
abbrev pub Writes : Tables → (before : List ℕ) → Result ℕ Refusal → (after : List ℕ) → Type 0
Writes t before r after = (written_told r ≡ write_answer t before) × (after ≡ written_room t before)

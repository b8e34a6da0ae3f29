-- What a C caller is handed: every reply as one number, one place, and what else it has.
use Rattle.std.specs.Prelude.{Bool, true, false, List, [], ◌∷◌, ℕ, eqb}
use Rattle.problem.specs.Replies.{Told, told}
use Rattle.handing.specs.declared.HarbourReply.{HarbourReply}
use Rattle.handing.specs.declared.HarbourReadReply.{HarbourReadReply}
use Rattle.handing.specs.declared.HarbourWritten.{HarbourWritten}

-- the place is 0 where the documents give none
abbrev pub place_in : (values : List ℕ) → ℕ
place_in [] = 0
place_in (place ∷ more) = place

abbrev pub handed : Told → (checks trials : ℕ) → HarbourReply
handed w checks trials = record { answer = w.number; place = place_in w.values; checks = checks; trials = trials }

-- that tables are fine is handed on without the problem's own numbers
abbrev pub fine_or_refused : Told → Told
fine_or_refused w = elim (eqb w.number 0) [ true ↦ told 0 [] | false ↦ w ]

-- what the reader says, with how much is written to each part
abbrev pub handed_read : Told → (boats pair_bytes row_words : ℕ) → HarbourReadReply
handed_read w boats pair_bytes row_words =
    let said = fine_or_refused w in
    record { answer = said.number; place = place_in said.values; boats = boats; pair_bytes = pair_bytes; row_words = row_words }

-- what the writer says: 0 with the file's length, or a refusal with its place
abbrev pub length_or_place : (is_length : Bool) → (number value : ℕ) → HarbourWritten
length_or_place true number value = record { answer = number; place = 0; length = value }
length_or_place false number value = record { answer = number; place = value; length = 0 }

abbrev pub handed_written : Told → HarbourWritten
handed_written w = length_or_place (eqb w.number 0) w.number (place_in w.values)

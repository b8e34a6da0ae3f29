-- What a reading and what was found in a file say on paper: number 0 with the numbers of boats, of listed pairs and of row words, or a refusal.
use Rattle.std.specs.Prelude.{Result, Ok, Err, [], ◌∷◌, length}
use Rattle.problem.specs.Tables.{boats, listed}
use Rattle.problem.specs.Replies.{Told, told, refused, refusal_told}
use Rattle.problem.specs.declared.Problem.{Problem}
use Rattle.problem.specs.declared.Refusal.{Refusal}
use Rattle.files.specs.Reading.{Reading, fault, read}

abbrev pub contents_told : Result Problem Refusal → Told
contents_told (Ok p) = told 0 (p.boats ∷ p.pairs ∷ p.words ∷ [])
contents_told (Err why) = refusal_told why

abbrev pub reading_told : Reading → Told
reading_told (fault number place after) = refused number place
reading_told (read t) = told 0 (boats t ∷ listed t.pairs ∷ length t.rows ∷ [])

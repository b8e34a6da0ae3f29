-- What the examination's reply says on paper.
use Rattle.std.specs.Prelude.{[], ◌∷◌, Result, Ok, Err}
use Rattle.problem.specs.Replies.{Told, told, refusal_told}
use Rattle.problem.specs.Tables.{Tables}
use Rattle.problem.specs.declared.Problem.{Problem}
use Rattle.problem.specs.declared.Refusal.{Refusal}
use Rattle.tables.specs.Examination.{fine_told}

abbrev pub examined_told : Result Problem Refusal → Told
examined_told (Ok p) = told 0 (p.boats ∷ p.pairs ∷ p.words ∷ [])
examined_told (Err why) = refusal_told why

-- .. and where it hands on the tables
abbrev pub tables_told : Result Tables Refusal → Told
tables_told (Ok t) = fine_told t
tables_told (Err why) = refusal_told why

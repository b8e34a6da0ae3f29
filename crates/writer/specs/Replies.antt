-- What the writer's reply says on paper: number 0 with the file's length, or a refusal.
use Rattle.std.specs.Prelude.{Result, Ok, Err, [], ◌∷◌, ℕ}
use Rattle.problem.specs.Replies.{Told, told, refusal_told}
use Rattle.problem.specs.declared.Refusal.{Refusal}

abbrev pub written_told : Result ℕ Refusal → Told
written_told (Ok length) = told 0 (length ∷ [])
written_told (Err why) = refusal_told why

-- What the replies about a given plan say on paper.
use Rattle.std.specs.Prelude.{Bool, true, false, [], ◌∷◌, ℕ, Option, Some, None, Result, Ok, Err}
use Rattle.problem.specs.Replies.{Told, told, refusal_told}
use Rattle.problem.specs.declared.Refusal.{Refusal}

-- is the plan lawful?
abbrev pub judged_told : Result Bool Refusal → Told
judged_told (Ok true) = told 0 []
judged_told (Ok false) = told 1 []
judged_told (Err why) = refusal_told why

-- which pair does it break, if it breaks one?
abbrev pub broken_told : Result (Option ℕ) Refusal → Told
broken_told (Ok None) = told 0 []
broken_told (Ok (Some k)) = told 1 (k ∷ [])
broken_told (Err why) = refusal_told why

-- A wrong program of another shape than the code, with a plan on which the promise refuses its reply.
use mathlib.Core.Path.{◌≡◌, refl, ap}
use mathlib.Core.List.{[], ◌∷◌}
use borrow.Author.Tests.{eqb-false}
use Rattle.problem.specs.Lowest.{lowest_from, lowest, sum}
use Rattle.problem.specs.Tables.{Tables, start}
use Rattle.problem.specs.Replies.{told}
use Rattle.tables.specs.Tests.{first_of}
use Rattle.tables.specs.Examination.{first_way_bad, bad_word, pair_of_word}
use Rattle.tables.proofs.Wrong.{place}
use Rattle.questions.specs.Questions.{broken, broken_question}

-- harbour case D: three boats of two slots, no two at the same
abbrev case_d : Tables
case_d = record { sizes = 2 ∷ 2 ∷ 2 ∷ []; pairs = 0 ∷ 1 ∷ 0 ∷ 2 ∷ 1 ∷ 2 ∷ []; rows = 2 ∷ 1 ∷ 2 ∷ 1 ∷ 2 ∷ 1 ∷ [] }

-- one that names the last broken pair instead of the lowest
pub last_broken : told 1 (2 ∷ []) ≡ broken_question case_d (1 ∷ 1 ∷ 1 ∷ []) → ⊥
unfolding broken_question broken first_of lowest lowest_from start sum first_way_bad bad_word pair_of_word
last_broken e = eqb-false 2 0 refl (ap place e)

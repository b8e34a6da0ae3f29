-- What the definitions say of the files of specs/Cases.antt is what was worked out by hand: computed from them.
use Rattle.std.specs.Prelude.{◌≡◌, refl, [], ◌∷◌, ◌++◌, map}
use Rattle.problem.specs.Lowest.{lowest_from, lowest, sum}
use Rattle.problem.specs.Tables.{start}
use Rattle.tables.specs.Tests.{first_of}
use Rattle.tables.specs.Examination.{first_way_bad, bad_word, pair_of_word, examination}
use Rattle.questions.specs.Questions.{broken, lawful_question}
use Rattle.files.specs.File.{SZ, PR, ED}
use Rattle.files.specs.Reading.{read}
use Rattle.files.specs.Reader.{read_result, desk_result}
use Rattle.files.specs.Cases.{written, means, two, two_file, wide, file_cases, read_cases, enough, desk_cases}

pub two_written : written two ≡ two_file
unfolding written
two_written = refl

pub two_read : means two_file ≡ read two
unfolding means
two_read = refl

pub wide_written : written wide ≡ SZ ++ (2 ∷ 2 ∷ 1 ∷ (PR ++ (0 ∷ 1 ∷ 1 ∷ 0 ∷ 0 ∷ 0 ∷ 0 ∷ 0 ∷ 0 ∷ 0 ∷ 2 ∷ 3 ∷ 0 ∷ 0 ∷ 0 ∷ 0 ∷ 0 ∷ 0 ∷ (ED ++ (1 ∷ 0 ∷ [])))))
unfolding written
wide_written = refl

pub files_mean : map (λ c. means c.file) file_cases ≡ map (λ c. c.expected) file_cases
unfolding means file_cases
files_mean = refl

pub files_read : map (λ c. read_result c.file c.lent) read_cases ≡ map (λ c. c.left) read_cases
unfolding read_result means read_cases examination first_of lowest lowest_from start sum first_way_bad bad_word pair_of_word
files_read = refl

pub desk_asked : map (λ c. (desk_result c.file c.given enough).answer) desk_cases ≡ map (λ c. c.answer) desk_cases
unfolding desk_result means desk_cases lawful_question broken examination first_of lowest lowest_from start sum first_way_bad bad_word pair_of_word
desk_asked = refl

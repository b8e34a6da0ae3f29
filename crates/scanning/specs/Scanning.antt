-- What the first pass knows where a PR or the ED is due.
use Rattle.std.specs.Prelude.{◌≡◌, Option, Some, None, Result, Ok, Err, List, [], ◌∷◌, ◌++◌, ℕ, ◌+◌, ◌*◌, ◌≤◌, length, get_or, take, drop}
use Rattle.problem.specs.Tables.{Tables}
use Rattle.files.specs.Bytes.{words_of}
use Rattle.files.specs.Reading.{Reading, read, sized, pairs_due, read_from}
use Rattle.problem.specs.Replies.{refusal_told}
use Rattle.scanning.specs.Replies.{reading_told}
use Rattle.problem.specs.declared.Refusal.{Refusal}

-- tables read so far: the sizes stand after the first three bytes, and there are so many pairs and row words
pub record SoFar (file : List ℕ) (boats pairs words : ℕ) (t : Tables) : Type 0 where
  pub sizes_are : t.sizes ≡ take boats (drop 3 file)
  pub pair_bytes : length t.pairs ≡ 2 * pairs
  pub row_words : length t.rows ≡ words

-- reading goes on after a PR of so many slots, with one pair more
pub record GoesOn (file : List ℕ) (boats at pairs slots words : ℕ) (t : Tables) : Type 0 where
  pub grown : Tables
  pub so_far : SoFar file boats (pairs + 1) (words + slots) grown
  pub pairs_are : grown.pairs ≡ t.pairs ++ (get_or file (at + 2) 0 ∷ get_or file (at + 3) 0 ∷ [])
  pub rows_are : grown.rows ≡ t.rows ++ words_of slots (take (8 * slots) (drop (at + 4) file))
  pub on : read_from at pairs_due t (drop at file) ≡ read_from (at + (4 + 8 * slots)) pairs_due grown (drop (at + (4 + 8 * slots)) file)

pub record PairMet (file : List ℕ) (boats at pairs slots : ℕ) : Type 0 where
  pub inside : at + (4 + 8 * slots) ≤ length file
  pub goes_on : (words : ℕ) (t : Tables) → SoFar file boats pairs words t → GoesOn file boats at pairs slots words t

-- a PR by its slots, none for the ED, or a fault
abbrev pub Meets : List ℕ → (boats at pairs : ℕ) → Result (Option ℕ) Refusal → Type 0
Meets file boats at pairs (Ok (Some slots)) = PairMet file boats at pairs slots
Meets file boats at pairs (Ok None) = (words : ℕ) (t : Tables) → SoFar file boats pairs words t → read_from at pairs_due t (drop at file) ≡ read t
Meets file boats at pairs (Err why) =
    (words : ℕ) (t : Tables) → SoFar file boats pairs words t → reading_told (read_from at pairs_due t (drop at file)) ≡ refusal_told why

-- ---- what is read from the first mark after SZ on
abbrev pub from_sizes : List ℕ → (boats : ℕ) → Reading
from_sizes file boats = read_from (3 + boats) pairs_due (sized (take boats (drop 3 file))) (drop (3 + boats) file)

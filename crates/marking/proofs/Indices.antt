-- What the index word of two boats says of a look at their pair.
use mathlib.Core.Path.{◌≡◌, refl, ap, ◌∙◌}
use mathlib.Core.Bool.{Bool, true, false}
use mathlib.Core.List.{List}
use Prim.Native.Nat.{ℕ, ◌+◌, ◌-◌, ◌<◌}
use native.Mathlib.Omega.{arith}
use lib.ListN.{length, get_or}
use Rattle.problem.specs.Tables.{Tables, boats, size, place, is_listed, start, bit}
use Rattle.problem.specs.Sane.{Sane}
use Rattle.events.specs.declared.Counts.{Counts}
use Rattle.events.specs.Counts.{check_counted}
use Rattle.methods.specs.Choices.{may_stand}
use Rattle.words.specs.Places.{index, tri}
use Rattle.words.specs.Layout.{word, index_of, Indexed}
use Rattle.words.proofs.Indexed.{index_unlisted, index_listed, listed_index}
use Rattle.words.proofs.Rows.{row_there, row_allows}
use Rattle.visits.specs.declared.Look.{Look}
use Rattle.visits.specs.Looks.{checked_look}
use Rattle.visits.proofs.Looking.{look_of}
use Rattle.marking.specs.Looks.{looked_at}

module _ (t : Tables) (h i : ℕ) where
  -- the word itself, where its row begins there
  pub index_at : (w : List ℕ) (row : ℕ) → Indexed t w → row ≡ index + tri i → h < i → i < boats t → word w (row + h) ≡ index_of t h i
  index_at w row d e lh lt = ap (λ (n : ℕ). word w (n + h)) e ∙ d h i lh lt

  module _ (x : ℕ) (found : ℕ) (e : found ≡ index_of t h i) where
    -- the rows of a listed pair begin one below it
    begins : is_listed t.pairs h i ≡ true → found - 1 ≡ start t.sizes t.pairs (place t.pairs h i)
    begins l = omega (arith, index_listed t h i found e l)

    -- the row that it leads to is there
    pub index_row : Sane t → x < size t.sizes h → 0 < found → found - 1 + x < length t.rows
    index_row s lx pos = let l = listed_index t h i found e pos in row_there t h i (found - 1) (begins l) l x s lx

    -- and the look goes by it as by the pair
    pub looked_as : {r : Look} (a : ℕ) (m : Counts) → r ≡ looked_at found (bit (get_or t.rows (found - 1 + x) 0) a) m → r ≡ look_of (is_listed t.pairs h i) (may_stand t h x i a) m
    looked_as a m g = g ∙ by (is_listed t.pairs h i) refl
      where
        by : (b : Bool) → is_listed t.pairs h i ≡ b → looked_at found (bit (get_or t.rows (found - 1 + x) 0) a) m ≡ look_of b (may_stand t h x i a) m
        by false l = ap (λ (n : ℕ). looked_at n (bit (get_or t.rows (found - 1 + x) 0) a) m) (index_unlisted t h i found e l)
        by true l =
            ap (λ (n : ℕ). looked_at n (bit (get_or t.rows (found - 1 + x) 0) a) m) (index_listed t h i found e l)
            ∙ ap (λ (b : Bool). checked_look b (check_counted m)) (row_allows t h i (found - 1) (begins l) l x a)

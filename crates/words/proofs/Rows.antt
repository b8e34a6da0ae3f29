-- The rows of a listed pair, from where they begin.
use mathlib.Core.Path.{◌≡◌, sym, ap, ◌∙◌}
use mathlib.Core.Bool.{true}
use Prim.Native.Nat.{ℕ, ◌+◌, ◌<◌}
use native.Mathlib.Omega.{arith}
use lib.ListN.{length, get_or}
use Rattle.problem.specs.Tables.{Tables, size, lower, place, is_listed, start, bit}
use Rattle.problem.specs.Sane.{Sane}
use Rattle.problem.proofs.Places.{listed_lt, place_pair, allowed_listed}
use Rattle.problem.proofs.Starts.{start_within}
use Rattle.methods.specs.Choices.{may_stand}
use Rattle.methods.proofs.Shown.{may_allowed}

module _ (t : Tables) (h i first : ℕ) (e : first ≡ start t.sizes t.pairs (place t.pairs h i)) (listed : is_listed t.pairs h i ≡ true) (x : ℕ) where
  -- the row of slot x of boat h is there
  pub row_there : Sane t → x < size t.sizes h → first + x < length t.rows
  row_there s lx =
      let k = place t.pairs h i in
      let q = listed_lt t.pairs h i listed in
      let z : size t.sizes (lower t.pairs k) ≡ size t.sizes h = ap (size t.sizes) (place_pair t.pairs h i q).0 in
      omega (arith, e, z, s.row_words, start_within t.sizes t.pairs k q)

  -- its bits say which slots may stand beside it
  pub row_allows : (a : ℕ) → bit (get_or t.rows (first + x) 0) a ≡ may_stand t h x i a
  row_allows a = ap (λ (n : ℕ). bit (get_or t.rows (n + x) 0) a) e ∙ sym (may_allowed t h x i a ∙ allowed_listed t h x i a listed)

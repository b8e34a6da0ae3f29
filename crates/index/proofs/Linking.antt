-- A boat's index row becomes its links, boat by boat below it.
use mathlib.Core.Path.{◌≡◌, refl, ap, ◌∙◌}
use mathlib.Core.Logic.{inr}
use mathlib.Core.Bool.{Bool, true, false}
use mathlib.Core.List.{List}
use Prim.Native.Nat.{ℕ, ◌+◌, ◌-◌, ◌*◌, ◌≤◌, ◌<◌}
use native.Mathlib.Numerals.{add-one}
use native.Mathlib.Omega.{arith}
use lib.ListN.{length, set}
use lib.Seq.{get_or-set_same, get_or-set_other}
use Rattle.problem.specs.Tables.{Tables, place, is_listed}
use Rattle.problem.specs.Sane.{Sane}
use Rattle.problem.proofs.Places.{listed_lt}
use Rattle.words.specs.Places.{tri}
use Rattle.words.specs.Layout.{word, ChangedOnly, index_of}
use Rattle.words.specs.Links.{link_of, Links}
use Rattle.words.specs.Links.Links.{none}
use Rattle.words.proofs.ChangedOnly.{only_refl, only_trans, only_set, only_widen}
use Rattle.words.proofs.Indexed.{index_unlisted, index_listed, unlisted_index, listed_index}
use Rattle.problem.proofs.Starts.{start_few}
use Rattle.words.proofs.Links.{links_stay, links_past, links_link}

-- ---- the link that an index word gives
module _ (t : Tables) (h i index : ℕ) (e : index ≡ index_of t h i) where
  -- the link, as the code finds it
  link_found : 0 < index → (index - 1) * 64 + h ≡ link_of t h i
  link_found pos = omega (arith, index_listed t h i index e (listed_index t h i index e pos))

  index_few : Sane t → index ≤ 129025
  index_few s = by (is_listed t.pairs h i) refl
    where
      by : (b : Bool) → is_listed t.pairs h i ≡ b → index ≤ 129025
      by false l = omega (arith, index_unlisted t h i index e l)
      by true l =
          let q = listed_lt t.pairs h i l in
          omega (arith, index_listed t h i index e l, s.few_pairs, start_few t s (place t.pairs h i) (omega arith))

-- ---- one boat's row
-- before boat h, whose link would be at 512 + to: no word is lost that is still to be read
pub record RowTo (t : Tables) (w₀ w : List ℕ) (i from to h : ℕ) : Type 0 where
  pub begins : from ≤ to
  pub few : to ≤ from + h
  pub links : Links t w i h 0 from to
  pub only : ChangedOnly (512 + from) (512 + to) w₀ w

pub row_none : {t : Tables} (w : List ℕ) (i from : ℕ) → RowTo t w w i from from 0
row_none w i from = record { begins = omega arith; few = omega arith; links = none; only = only_refl (512 + from) (512 + from) w }

module _ {t : Tables} {w₀ w : List ℕ} {i from to h : ℕ} (b : RowTo t w₀ w i from to h) where
  module _ {row : ℕ} (low : from ≤ tri i) (er : row ≡ 512 + tri i) (d : word w₀ (512 + tri i + h) ≡ index_of t h i) where
    index_here : word w (row + h) ≡ index_of t h i
    index_here = ap (λ (n : ℕ). word w (n + h)) er ∙ b.only.others (512 + tri i + h) (inr (omega (arith, b.few))) ∙ d

    pub row_index_few : Sane t → word w (row + h) ≤ 129025
    row_index_few = index_few t h i _ index_here

    pub row_past : h < i → word w (row + h) ≡ 0 → RowTo t w₀ w i from to (h + 1)
    row_past lh z =
        record {
          begins = b.begins;
          few = omega (arith, b.few);
          links = rw (add-one h) (links_past (unlisted_index t h i _ index_here z) b.links);
          only = b.only;
        }

    pub row_link : h < i → 0 < word w (row + h) → 512 + to < length w → RowTo t w₀ (set w (512 + to) ((word w (row + h) - 1) * 64 + h)) i from (to + 1) (h + 1)
    row_link lh pos lt =
        let v = (word w (row + h) - 1) * 64 + h in
        record {
          begins = omega (arith, b.begins);
          few = omega (arith, b.few);
          links =
              rw (add-one h, add-one to) (links_link (listed_index t h i _ index_here pos)
              (get_or-set_same w (512 + to) v 0 lt ∙ link_found t h i _ index_here pos)
              (links_stay (λ k lo hi. get_or-set_other w (512 + to) (512 + k) v 0 (omega arith)) b.links));
          only = only_trans (only_widen (omega arith) (omega arith) b.only) (only_set w (512 + to) v (omega arith) (omega arith));
        }

  pub row_all : from ≤ tri i → h ≡ i → ((to ≤ from + i) × Links t w i i 0 from to) × ChangedOnly (512 + from) (512 + tri i + i) w₀ w
  row_all low e =
      ((omega arith, rw e at b.links), only_widen (omega arith) (omega arith) b.only)

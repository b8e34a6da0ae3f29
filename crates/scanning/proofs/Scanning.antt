-- The first pass, mark by mark: what was read so far, and that it says what reading says.
use mathlib.Core.Path.{◌≡◌, refl, sym, ap, ap₂, ◌∙◌}
use mathlib.Core.List.{List, [], ◌∷◌}
use Prim.Native.Nat.{ℕ, ◌+◌, ◌*◌, ◌≤◌}
use native.Mathlib.Omega.{arith}
use lib.ListN.{length, take, drop, length-drop}
use lib.Seq.{length-take-le}
use Rattle.problem.specs.Tables.{Tables, boats as boats_of, listed}
use Rattle.problem.specs.Replies.{Told, told}
use Rattle.files.specs.Reading.{read, sized, pairs_due, read_from}
use Rattle.scanning.specs.Replies.{reading_told}
use Rattle.scanning.specs.Scanning.{from_sizes, SoFar, PairMet}

pub record AtMark (file : List ℕ) (boats at pairs words : ℕ) : Type 0 where
  pub inside : at ≤ length file
  pub front : 3 + boats ≤ at
  pub few : pairs + words ≤ at
  pub tables : Tables
  pub so_far : SoFar file boats pairs words tables
  pub is : from_sizes file boats ≡ read_from at pairs_due tables (drop at file)

module _ (file : List ℕ) (boats : ℕ) where
  unfoldable pub pass_begins : 3 + boats ≤ length file → AtMark file boats (3 + boats) 0 0
  pass_begins l = record {
    inside = l;
    front = omega arith;
    few = omega arith;
    tables = sized (take boats (drop 3 file));
    so_far = record { sizes_are = refl; pair_bytes = refl; row_words = refl };
    is = refl;
  }

  module _ (at pairs words : ℕ) (m : AtMark file boats at pairs words) where
    pub pass_steps : (slots : ℕ) → PairMet file boats at pairs slots → AtMark file boats (at + (4 + 8 * slots)) (pairs + 1) (words + slots)
    pass_steps slots p =
        let g = p.goes_on words m.tables m.so_far in
        record {
          inside = p.inside;
          front = omega (arith, m.front);
          few = omega (arith, m.few);
          tables = g.grown;
          so_far = g.so_far;
          is = m.is ∙ g.on;
        }

    pub pass_ends : ((words : ℕ) (t : Tables) → SoFar file boats pairs words t → read_from at pairs_due t (drop at file) ≡ read t)
        → told 0 (boats ∷ pairs ∷ words ∷ []) ≡ reading_told (from_sizes file boats)
    pass_ends e =
        let s = m.so_far in
        let n : boats ≡ boats_of m.tables =
        sym (ap length s.sizes_are ∙ length-take-le boats (drop 3 file) (omega (arith, m.inside, m.front, length-drop 3 file))) in
        let k : pairs ≡ listed m.tables.pairs = omega (arith, s.pair_bytes) in
        ap₂ (λ b rest. told 0 (b ∷ rest)) n (ap₂ (λ p w. p ∷ w ∷ []) k (sym s.row_words))
        ∙ sym (ap reading_told (m.is ∙ e words m.tables s))

    pub pass_faults : (w : Told) → ((words : ℕ) (t : Tables) → SoFar file boats pairs words t → reading_told (read_from at pairs_due t (drop at file)) ≡ w)
        → w ≡ reading_told (from_sizes file boats)
    pass_faults w e = sym (ap reading_told m.is ∙ e words m.tables m.so_far)

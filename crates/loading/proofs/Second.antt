-- The second pass, mark by mark: what is written so far is what was read so far.
use mathlib.Core.Path.{◌≡◌, refl, sym, ap, ap₂, ◌∙◌}
use mathlib.Core.Bool.{true, false}
use mathlib.Core.List.{List, [], ◌∷◌, ◌++◌}
use Prim.Native.Nat.{ℕ, ◌+◌, ◌*◌, ◌≤◌, ◌<◌}
use native.Mathlib.Omega.{arith}
use borrow.Rule.Slice.PartMut.{put_mid}
use lib.ListN.{length, get_or, take, drop}
use Rattle.problem.specs.Tables.{Tables}
use Rattle.files.specs.Bytes.{words_of}
use Rattle.files.specs.File.{PR}
use Rattle.files.specs.Reading.{read, pairs_due, same, read_from}
use Rattle.scanning.specs.Scanning.{GoesOn, from_sizes}
use Rattle.loading.specs.Loading.{Fitting, Filled}
use Rattle.scanning.proofs.Scanning.{AtMark, pass_begins}
use Rattle.scanning.proofs.Meeting.{two_taken}
use Rattle.loading.proofs.Filling.{put_next}
use Rattle.loading.proofs.Sure.{sure_mark, sure_end, sure_lower, sure_there, sure_words, sure_on, sure_room}

pub record AtPair (file : List ℕ) (boats : ℕ) (pairs₀ rows₀ : List ℕ) (at k word : ℕ) (pairs rows : List ℕ) : Type 0 where
  pub mark : AtMark file boats at k word
  pub pairs_are : pairs ≡ mark.tables.pairs ++ drop (2 * k) pairs₀
  pub rows_are : rows ≡ mark.tables.rows ++ drop word rows₀

pub second_begins : (file : List ℕ) (boats : ℕ) (pairs₀ rows₀ : List ℕ) → 3 + boats ≤ length file → AtPair file boats pairs₀ rows₀ (3 + boats) 0 0 pairs₀ rows₀
unfolding pass_begins
second_begins file boats pairs₀ rows₀ l = record { mark = pass_begins file boats l; pairs_are = refl; rows_are = refl }

module _ {file : List ℕ} {boats : ℕ} {pairs₀ rows₀ : List ℕ} (f : Fitting file boats (length pairs₀) (length rows₀)) {at k word : ℕ} {pairs rows : List ℕ}
    (a : AtPair file boats pairs₀ rows₀ at k word pairs rows) where
  onward : read_from at pairs_due a.mark.tables (drop at file) ≡ read f.tables
  onward = sym a.mark.is ∙ f.is_read

  pub mark_there : at + 2 ≤ length file
  mark_there = sure_mark file at boats k word a.mark.inside a.mark.front a.mark.tables a.mark.so_far f.tables onward

  pub second_ends : same (take 2 (drop at file)) PR ≡ false → Filled file boats pairs₀ rows₀ pairs rows
  second_ends other = record {
    pairs_written = λ t e.
        let q : a.mark.tables ≡ t = all t e in
        a.pairs_are ∙ ap (λ n. a.mark.tables.pairs ++ drop n pairs₀) (sym a.mark.so_far.pair_bytes) ∙ ap (λ s. s.pairs ++ drop (length s.pairs) pairs₀) q;
    rows_written = λ t e.
        let q : a.mark.tables ≡ t = all t e in
        a.rows_are ∙ ap (λ n. a.mark.tables.rows ++ drop n rows₀) (sym a.mark.so_far.row_words) ∙ ap (λ s. s.rows ++ drop (length s.rows) rows₀) q;
  }
    where
      all : (t : Tables) → from_sizes file boats ≡ read t → a.mark.tables ≡ t
      all t e = sure_end file at boats k word a.mark.inside a.mark.front a.mark.tables a.mark.so_far t (sym a.mark.is ∙ e) other

  module _ (pr : same (take 2 (drop at file)) PR ≡ true) where
    pub lower_there : at + 3 ≤ length file
    lower_there = sure_lower file at boats k word a.mark.inside a.mark.front a.mark.tables a.mark.so_far f.tables onward pr

    module _ (l : ℕ) (is : l ≡ get_or file (at + 2) 0) where
      pub boat_there : l < boats
      boat_there = sure_there file at boats k word a.mark.inside a.mark.front a.mark.tables a.mark.so_far f.tables onward pr l is

      module _ (slots : ℕ) (are : slots ≡ get_or file (3 + l) 0) where
        pub words_there : at + (4 + 8 * slots) ≤ length file
        words_there = sure_words file at boats k word a.mark.inside a.mark.front a.mark.tables a.mark.so_far f.tables onward pr l is slots are

        pub room : (2 * k + 2 ≤ length pairs₀) × (word + slots ≤ length rows₀)
        room =
            let r = sure_room file at boats k word a.mark.inside a.mark.front a.mark.tables a.mark.so_far f.tables onward pr l is slots are in
            (omega (arith, r.0, f.pairs_fit), omega (arith, r.1, f.rows_fit))

        on : GoesOn file boats at k slots word a.mark.tables
        on = sure_on file at boats k word a.mark.inside a.mark.front a.mark.tables a.mark.so_far f.tables onward pr l is slots are

        pub second_steps : (p r : List ℕ) → p ≡ take 2 (drop (at + 2) file) → r ≡ words_of slots (take (8 * slots) (drop (at + 4) file))
            → AtPair file boats pairs₀ rows₀ (at + (4 + 8 * slots)) (k + 1) (word + slots) (put_mid (2 * k) 2 pairs p) (put_mid word slots rows r)
        second_steps p r e q =
            let higher : at + 2 + 1 ≡ at + 3 = omega arith in
            let next : 2 * k + 2 ≡ 2 * (k + 1) = omega arith in
            let two : p ≡ get_or file (at + 2) 0 ∷ get_or file (at + 3) 0 ∷ [] =
            e ∙ two_taken file (at + 2) (omega (arith, words_there)) ∙ ap (λ i. get_or file (at + 2) 0 ∷ get_or file i 0 ∷ []) higher in
            record {
              mark = record {
                inside = words_there;
                front = omega (arith, a.mark.front);
                few = omega (arith, a.mark.few);
                tables = on.grown;
                so_far = on.so_far;
                is = a.mark.is ∙ on.on;
              };
              pairs_are =
                  put_next a.mark.tables.pairs pairs₀ pairs p (2 * k) 2 a.pairs_are a.mark.so_far.pair_bytes
                  ∙ ap₂ (λ l n. (a.mark.tables.pairs ++ l) ++ drop n pairs₀) two next
                  ∙ ap (λ l. l ++ drop (2 * (k + 1)) pairs₀) (sym on.pairs_are);
              rows_are =
                  put_next a.mark.tables.rows rows₀ rows r word slots a.rows_are a.mark.so_far.row_words
                  ∙ ap (λ l. (a.mark.tables.rows ++ l) ++ drop (word + slots) rows₀) q
                  ∙ ap (λ l. l ++ drop (word + slots) rows₀) (sym on.rows_are);
            }

-- The index for looking ahead, filled boat by boat.
use mathlib.Core.Path.{◌≡◌, sym, ap, ◌∙◌}
use mathlib.Core.List.{List}
use Prim.Native.Nat.{ℕ, ◌+◌, ◌-◌, ◌*◌, ◌≤◌, ◌<◌}
use native.Mathlib.Omega.{arith}
use borrow.Author.Count.{below_more}
use lib.ListN.{length, set, length-set}
use lib.Seq.{get_or-set_same, get_or-set_other}
use Rattle.problem.specs.Tables.{Tables, boats, size, start}
use Rattle.problem.specs.Sane.{Sane}
use Rattle.problem.proofs.Starts.{start_zero, start_few}
use Rattle.words.specs.Layout.{word, ChangedOnly, first_pair}
use Rattle.words.proofs.ChangedOnly.{only_refl, only_trans, only_set}
use Rattle.words.proofs.Firsts.{first_le, first_zero, start_first}

abbrev first_row : Tables → (i : ℕ) → ℕ
first_row t i = start t.sizes t.pairs (first_pair t.pairs i)

-- before boat i, whose first pair is k and has its rows from n on
pub record AheadTo (t : Tables) (w₀ w : List ℕ) (k n i : ℕ) : Type 0 where
  pub up_to : i ≤ boats t
  pub first : k ≡ first_pair t.pairs i
  pub begins : n ≡ first_row t i
  pub pair_from : (j : ℕ) → j < i → word w (192 + j) ≡ first_pair t.pairs j
  pub row_from : (j : ℕ) → j < i → word w (320 + j) ≡ first_row t j
  pub only : ChangedOnly 192 384 w₀ w

module _ {t : Tables} where
  pub ahead_none : (w : List ℕ) → AheadTo t w w 0 0 0
  ahead_none w =
      record {
        up_to = omega arith;
        first = sym (first_zero t.pairs);
        begins = sym (ap (start t.sizes t.pairs) (first_zero t.pairs) ∙ start_zero t.sizes t.pairs);
        pair_from = λ j l. absurd (omega arith);
        row_from = λ j l. absurd (omega arith);
        only = only_refl 192 384 w;
      }

  module _ (s : Sane t) {w₀ w : List ℕ} {k n i : ℕ} (long : 8192 ≤ length w₀) (a : AheadTo t w₀ w k n i) where
    -- what the first store leaves
    pairs_put : (j : ℕ) → j < i + 1 → word (set w (192 + i) k) (192 + j) ≡ first_pair t.pairs j
    pairs_put =
        below_more (λ j. word (set w (192 + i) k) (192 + j) ≡ first_pair t.pairs j) i
        (λ j l. get_or-set_other w (192 + i) (192 + j) k 0 (omega arith) ∙ a.pair_from j l)
        (get_or-set_same w (192 + i) k 0 (omega arith) ∙ a.first)

    rows_kept : (j : ℕ) → j < i → word (set w (192 + i) k) (320 + j) ≡ first_row t j
    rows_kept j l = get_or-set_other w (192 + i) (320 + j) k 0 (omega arith) ∙ a.row_from j l

    first_only : ChangedOnly 192 384 w₀ (set w (192 + i) k)
    first_only = only_trans a.only (only_set w (192 + i) k (omega arith) (omega arith))

    -- the first pair of the boat after it, and boat i's slots
    module _ {k' z : ℕ} (next : (k ≤ k') × (k' ≡ first_pair t.pairs (i + 1))) (ez : z ≡ size t.sizes i) where
      begins_next : n + (k' - k) * z ≡ first_row t (i + 1)
      begins_next = sym (start_first t.sizes t.pairs s.rising i (omega arith) ∙ rw (← a.begins, ← a.first, ← next.1, ← ez))

      pub ahead_few : n + (k' - k) * z ≤ 129024
      ahead_few = omega (arith, begins_next, start_few t s (first_pair t.pairs (i + 1)) (first_le t.pairs (i + 1)), first_le t.pairs (i + 1))

      pub ahead_more : i < boats t → AheadTo t w₀ (set (set w (192 + i) k) (320 + i) n) k' (n + (k' - k) * z) (i + 1)
      ahead_more li =
          record {
            up_to = omega arith;
            first = next.1;
            begins = begins_next;
            pair_from = λ j l. get_or-set_other (set w (192 + i) k) (320 + i) (192 + j) n 0 (omega arith) ∙ pairs_put j l;
            row_from =
                below_more (λ j. word (set (set w (192 + i) k) (320 + i) n) (320 + j) ≡ first_row t j) i
                (λ j l. get_or-set_other (set w (192 + i) k) (320 + i) (320 + j) n 0 (omega arith) ∙ rows_kept j l)
                (get_or-set_same (set w (192 + i) k) (320 + i) n 0 (omega (arith, length-set w (192 + i) k)) ∙ a.begins);
            only = only_trans first_only (only_set (set w (192 + i) k) (320 + i) n (omega arith) (omega arith));
          }

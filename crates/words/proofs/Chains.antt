-- Along the live words: those of boat i's own pairs come after what stands before them.
use mathlib.Core.Path.{◌≡◌, ap, ◌∙◌}
use mathlib.Core.List.{List}
use Prim.Native.Nat.{ℕ, suc, ◌≤◌, ◌<◌}
use native.Mathlib.Nat.{le_refl}
use native.Mathlib.Omega.{arith}
use Rattle.problem.specs.Tables.{Tables, boats, listed, higher}
use Rattle.problem.specs.Sane.{Sane}
use Rattle.words.specs.Places.{last_at, prev_at, live_at}
use Rattle.words.specs.Layout.{word, first_pair, left_at, Chained}
use Rattle.words.proofs.Firsts.{first_le, first_same}
use Rattle.words.proofs.Pairs.{pair_listed, place_is, pair_is}
use Rattle.words.proofs.Lefts.{left_listed, left_before}

module _ (t : Tables) (s : Sane t) where
  -- what boat i leaves the higher boat of its pair k
  pub left_own : (i k : ℕ) → first_pair t.pairs i ≤ k → k < first_pair t.pairs (suc i) → left_at t.pairs (suc i) (higher t.pairs k) ≡ live_at k
  left_own i k lo hi =
      left_listed t.pairs (higher t.pairs k) i (pair_is t.pairs s.rising i k lo hi)
      ∙ ap live_at (place_is t.pairs s.rising i k lo hi)

  module _ {w : List ℕ} (c : Chained t w) where
    -- and what it finds
    pub prev_own : (i k : ℕ) → first_pair t.pairs i ≤ k → k < first_pair t.pairs (suc i) → word w (prev_at k) ≡ left_at t.pairs i (higher t.pairs k)
    prev_own i k lo hi =
        c.prev k (pair_listed t.pairs s.rising i k lo hi)
        ∙ ap (λ (g : ℕ). left_at t.pairs g (higher t.pairs k)) (first_same t.pairs s.rising i k lo hi)

    pub last_before_lem : (j : ℕ) → j < boats t → word w (last_at j) < live_at (listed t.pairs)
    last_before_lem j l = omega (arith, c.last j l, left_before t s j j j (le_refl j) l, first_le t.pairs j)

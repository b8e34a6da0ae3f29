-- All slots of all boats, written boat by boat.
use mathlib.Core.Path.{◌≡◌, sym, ap, ◌∙◌}
use mathlib.Core.Bool.{Bool, ◌&&◌}
use mathlib.Core.List.{List, []}
use Prim.Native.Nat.{ℕ, ◌+◌, ◌-◌, ◌^◌, ◌≤◌, ◌<◌}
use native.Mathlib.Omega.{arith}
use lib.Dec.{ltb}
use Rattle.problem.specs.Tables.{Tables, boats, size, bit}
use Rattle.words.specs.Layout.{word, ChangedOnly}
use Rattle.words.proofs.Lefts.{left_none}
use Rattle.live_words.specs.Lives.{Lives}
use Rattle.live_words.proofs.Words.{bit_ones}
use Rattle.live_words.proofs.Openings.{open_nil}

-- the boats below j have all their slots
pub record FilledTo (t : Tables) (w₀ w : List ℕ) (j : ℕ) : Type 0 where
  pub up_to : j ≤ boats t
  pub all : (k : ℕ) → k < j → word w (4032 + k) ≡ 2 ^ size t.sizes k - 1
  pub only : ChangedOnly 4032 4096 w₀ w

module _ {t : Tables} {w₀ w : List ℕ} {j : ℕ} (f : FilledTo t w₀ w j) where
  pub filled_all : boats t ≤ j → Lives t w [] 0
  filled_all le k i b lk li n lb =
      let e : k ≡ 0 = omega arith in
      rw (e, left_none t.pairs i)
      (ap (λ (v : ℕ). bit v b) (f.all i (omega arith)) ∙ bit_ones (size t.sizes i) b ∙ sym (ap (λ (x : Bool). x && ltb b (size t.sizes i)) (open_nil t i b)))

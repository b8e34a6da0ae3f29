-- The boats at whose trials a boat lost a slot: one boat more, and words that are as they were.
use mathlib.Core.Path.{◌≡◌, sym, ap, ◌∙◌}
use mathlib.Core.Bool.{Bool, true, false, not, ◌&&◌, ◌||◌}
use mathlib.Core.List.{List}
use Prim.Native.Nat.{ℕ, suc, ◌≤◌, ◌<◌}
use native.Mathlib.Omega.{arith}
use native.Mathlib.Decide.{dec_lt}
use lib.Dec.{ltb, eqb}
use lib.Pow.{pow_mono}
use Rattle.std.proofs.lemmas.Bool.Decides.{nat_tests}
use borrow.Author.Tests.{eq-eqb, ne_eqb, le-ltb}
use Rattle.problem.specs.Tables.{Tables}
use Rattle.words.specs.Sets.{WithMember}
use Rattle.words.proofs.Bits.{bit_zero}
use Rattle.live_words.specs.Lives.{left_word, LostAt}

-- a test of the boats below g, and of g
module _ (g h : ℕ) (d : Bool) where
  grown : (h ≡ g → d ≡ true) → ((ltb h g && d) || eqb h g) ≡ (ltb h (suc g) && d)
  grown e = grind (arith, nat_tests)

  kept : (h ≡ g → d ≡ false) → (ltb h g && d) ≡ (ltb h (suc g) && d)
  kept e = grind (arith, nat_tests)

module _ (t : Tables) (w : List ℕ) (j : ℕ) where
  -- boat g struck a slot of boat j
  abbrev struck : (g : ℕ) → Bool
  struck g = not (eqb (left_word t w g j) (left_word t w (suc g) j))

  pub lost_none : LostAt t w 0 j 0
  lost_none = record { members = λ g. bit_zero g ∙ sym (ap (λ (x : Bool). x && struck g) (le-ltb g 0 (omega arith))); below = omega arith }

  module _ {i s : ℕ} (l : LostAt t w i j s) where
    pub lost_more : (left_word t w i j ≡ left_word t w (suc i) j → ⊥) → {r : ℕ} → WithMember s i r → LostAt t w (suc i) j r
    lost_more ne m =
        record {
          members = λ h.
              m.members h ∙ ap (λ (x : Bool). x || eqb h i) (l.members h)
              ∙ grown i h (struck h) (λ e. rw (e, ne_eqb _ _ ne));
          below = m.below (suc i) (omega arith) (omega (arith, l.below, pow_mono {i = i} {j = suc i} (omega arith)));
        }

    pub lost_same : left_word t w i j ≡ left_word t w (suc i) j → LostAt t w (suc i) j s
    lost_same e =
        record {
          members = λ h. l.members h ∙ kept i h (struck h) (λ f. rw (f, eq-eqb _ _ e));
          below = omega (arith, l.below, pow_mono {i = i} {j = suc i} (omega arith));
        }

pub lost_stays : {t : Tables} {w w' : List ℕ} {i j r : ℕ} → ((k : ℕ) → k ≤ i → left_word t w' k j ≡ left_word t w k j) → LostAt t w i j r → LostAt t w' i j r
lost_stays {t} {w} {w'} {i} {j} same l = record { members = λ g. l.members g ∙ by g (dec_lt g i); below = l.below }
  where
    by : (g : ℕ) → Dec (g < i) → (ltb g i && struck t w j g) ≡ (ltb g i && struck t w' j g)
    by g (yes h) = rw (same g (omega arith), same (suc g) (omega arith))
    by g (no h) = rw (le-ltb g i (omega arith))

-- What a right mark says, and that looking back may begin past boats that allow: it fails at the same boat, with no more checks.
use mathlib.Core.Path.{◌≡◌}
use mathlib.Core.Bool.{Bool, true, false}
use mathlib.Core.List.{List, [], ◌∷◌}
use mathlib.Core.Option.{Option, none, some}
use Prim.Native.Nat.{ℕ, zero, suc, pred, ◌+◌, ◌≤◌, ◌<◌}
use native.Mathlib.Omega.{arith}
use native.Mathlib.Nat.{lt_of_lt_of_le, le_refl, add-zero, zero-add, le_of_suc-le-suc, pred-le}
use lib.Dec.{T}
use lib.ListN.{length, drop}
use Rattle.problem.specs.Tables.{Tables, is_listed}
use Rattle.problem.proofs.Places.{is_true}
use Rattle.events.specs.Events.{check, checks, checks_of}
use Rattle.methods.specs.Choices.{may_stand}
use Rattle.methods.specs.BT.{look_at, look_back}
use Rattle.methods.specs.BM.{last_looked_at}
use Rattle.methods.proofs.Runs.{at}
use Rattle.methods.specs.ByPlan.{refuser}
use Rattle.methods.proofs.Looking.{refuser_some, refuser_none, refuser_first}

module _ (t : Tables) where
  -- v is a right mark for choice x of boat k, as far as the boats below c go: if v is one of them, it does not allow x, and those of them before v allow it
  pub record Right (p : List ℕ) (k x v c : ℕ) : Type 0 where
    pub bad : v < c → may_stand t v (at p v) k x ≡ false
    pub good : (h : ℕ) → h < c → h < v → T (may_stand t h (at p h) k x)

  pub right_less : (p : List ℕ) (k x v c d : ℕ) → d ≤ c → Right p k x v c → Right p k x v d
  right_less p k x v c d le R = record { bad = λ lt. R.bad (lt_of_lt_of_le lt le); good = λ h lh lv. R.good h (lt_of_lt_of_le lh le) lv }

  -- a mark stays right for another plan that has the same choices below c
  pub right_along : (p r : List ℕ) (k x v c : ℕ) → ((h : ℕ) → h < c → at r h ≡ at p h) → Right p k x v c → Right r k x v c
  right_along p r k x v c same R =
      record { bad = λ lt. rw (same v lt) (R.bad lt); good = λ h lh lv. rw (same h lh) (R.good h lh lv) }

  -- the last boat looked at is a right mark
  pub right_look : (p : List ℕ) (x : ℕ) (y : Option ℕ) → refuser t (length p) x 0 p ≡ y → Right p (length p) x (last_looked_at (length p) y) (pred (length p))
  right_look p x none e =
      record {
        bad = λ lt. absurd (omega arith);
        good = λ h lh lv. rw (zero-add h) at (refuser_none t (length p) x 0 p e h (lt_of_lt_of_le lh (pred-le (length p))));
      }
  right_look p x (some g) e =
      let w = refuser_some t (length p) x 0 p g e in
      let wg : w.0 ≡ g = omega arith in
      record {
        bad = λ lt. rw wg at w.3;
        good = λ h lh lv. rw (zero-add h) at (refuser_first t (length p) x 0 p g e h (omega arith));
      }

  -- ---- looking back from boat h + b on, where boats h to h + b - 1 allow
  module _ (i a : ℕ) where
    -- b boats from boat h on allow, so the first does, and those after it do
    abbrev Allow : (b h : ℕ) → List ℕ → Type 0
    Allow b h xs = (k : ℕ) → k < b → T (may_stand t (h + k) (at xs k) i a)

    rest_allow : (b h x : ℕ) (xs : List ℕ) → Allow (suc b) h (x ∷ xs) → Allow b (suc h) xs
    rest_allow b h x xs all k lk =
        let y : suc h + k ≡ h + suc k = omega arith in
        rw y (all (suc k) (omega arith))

    first_allows : (b h x : ℕ) (xs : List ℕ) → Allow (suc b) h (x ∷ xs) → may_stand t h x i a ≡ true
    first_allows b h x xs all = is_true _ (rw (add-zero h) at (all 0 (omega arith)))

    -- it fails at the same boat
    pub refuser_drop : (b h : ℕ) (xs : List ℕ) → b ≤ length xs → Allow b h xs → refuser t i a h xs ≡ refuser t i a (h + b) (drop b xs)
    unfolding refuser
    refuser_drop zero h xs le all = rw (add-zero h)
    refuser_drop (suc b) h [] le all = absurd (omega arith)
    refuser_drop (suc b) h (x ∷ xs) le all =
        let y : h + suc b ≡ suc h + b = omega arith in
        rw (first_allows b h x xs all, y) (refuser_drop b (suc h) xs (le_of_suc-le-suc le) (rest_allow b h x xs all))

    -- with no more checks
    pub checks_drop : (b h : ℕ) (xs : List ℕ) → b ≤ length xs → Allow b h xs → checks (look_back t i a (h + b) (drop b xs)).checks ≤ checks (look_back t i a h xs).checks
    unfolding look_back checks_of
    checks_drop zero h xs le all = rw (add-zero h) (le_refl _)
    checks_drop (suc b) h [] le all = absurd (omega arith)
    checks_drop (suc b) h (x ∷ xs) le all =
        let y : h + suc b ≡ suc h + b = omega arith in
        rw (first_allows b h x xs all, y) (by (is_listed t.pairs h i) (checks_drop b (suc h) xs (le_of_suc-le-suc le) (rest_allow b h x xs all)))
      where
        by : (l : Bool) → checks (look_back t i a (suc h + b) (drop b xs)).checks ≤ checks (look_back t i a (suc h) xs).checks →
            checks (look_back t i a (suc h + b) (drop b xs)).checks ≤ checks (look_at h (check h x i a) l true (look_back t i a (suc h) xs)).checks
        by true rec = omega arith
        by false rec = rec

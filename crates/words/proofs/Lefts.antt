-- Where the slots of boat j stand that the boats below another leave live.
use mathlib.Core.Path.{◌≡◌, refl}
use mathlib.Core.Bool.{Bool, true, false}
use mathlib.Core.List.{List}
use Prim.Native.Nat.{ℕ, zero, suc, ◌≤◌, ◌<◌}
use native.Mathlib.Nat.{le_refl}
use native.Mathlib.Omega.{arith}
use Rattle.problem.specs.Tables.{Tables, boats, place, is_listed}
use Rattle.problem.specs.Sane.{Sane}
use Rattle.words.specs.Places.{alls, blames, all_at, live_at}
use Rattle.words.specs.Layout.{first_pair, left_at}
use Rattle.words.proofs.Firsts.{first_le}
use Rattle.words.proofs.Pairs.{place_before}

module _ (pairs : List ℕ) (j : ℕ) where
  pub left_none : left_at pairs 0 j ≡ all_at j
  unfolding left_at
  left_none = refl

  pub left_listed : (g : ℕ) → is_listed pairs g j ≡ true → left_at pairs (suc g) j ≡ live_at (place pairs g j)
  unfolding left_at
  left_listed g e = rw (e, left_at)

  pub left_unlisted : (g : ℕ) → is_listed pairs g j ≡ false → left_at pairs (suc g) j ≡ left_at pairs g j
  unfolding left_at
  left_unlisted g e = rw (e, left_at)

  -- what holds of all slots and of each pair listed with j
  left_each : (P : ℕ → Type 0) (i : ℕ) → P (all_at j) → ((g : ℕ) → g < i → is_listed pairs g j ≡ true → P (live_at (place pairs g j))) → P (left_at pairs i j)
  left_each P zero all each = rw left_none all
  left_each P (suc i) all each = by (is_listed pairs i j) refl (left_each P i all (λ g l e. each g (omega arith) e))
    where
      by : (b : Bool) → is_listed pairs i j ≡ b → P (left_at pairs i j) → P (left_at pairs (suc i) j)
      by true e rest = rw (left_listed i e) (each i (omega arith) e)
      by false e rest = rw (left_unlisted i e) rest

  pub left_from : (i : ℕ) → alls ≤ left_at pairs i j
  left_from i = left_each (λ n. alls ≤ n) i (omega arith) (λ g l e. omega arith)

-- what the boats up to i leave stands before the live words of boat i's own pairs, which its trials write
pub left_before : (t : Tables) → Sane t → (k i j : ℕ) → k ≤ i → j < boats t → left_at t.pairs k j < live_at (first_pair t.pairs i)
left_before t s k i j le lj =
    left_each t.pairs j (λ n. n < live_at (first_pair t.pairs i)) k (omega (arith, s.few_boats)) (λ g l e. omega (arith, place_before t.pairs s.rising g i j e (omega arith)))

-- among the words of all slots and of pairs
pub left_within : (t : Tables) → Sane t → (k j : ℕ) → j < boats t → left_at t.pairs k j < blames
left_within t s k j lj = omega (arith, left_before t s k k j (le_refl k) lj, first_le t.pairs k, s.few_pairs)

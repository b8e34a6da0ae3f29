-- The listed pairs that have boat i as their lower boat: one after the other, and rising in their higher boat.
use mathlib.Core.Path.{◌≡◌}
use mathlib.Core.Logic.{⊎_elim}
use mathlib.Core.Bool.{true}
use mathlib.Core.List.{List}
use Prim.Native.Nat.{ℕ, suc, ◌≤◌, ◌<◌}
use native.Mathlib.Nat.{le_refl}
use native.Mathlib.Omega.{arith}
use native.Mathlib.Decide.{dec_lt}
use Rattle.problem.specs.Tables.{listed, lower, higher, place, is_listed}
use Rattle.problem.specs.Rising.{Rising}
use Rattle.problem.proofs.Places.{listed_lt, lt_listed, place_pair, place_at}
use Rattle.words.specs.Layout.{first_pair}
use Rattle.words.proofs.Firsts.{first_le, first_before, first_from, first_same}

module _ (pairs : List ℕ) (rising : Rising pairs) where
  -- a pair with a lower boat below i comes before the pairs of i
  pair_before : (i k : ℕ) → k < listed pairs → lower pairs k < i → k < first_pair pairs i
  pair_before i k l below = by (dec_lt k (first_pair pairs i))
    where
      by : Dec (k < first_pair pairs i) → k < first_pair pairs i
      by (yes y) = y
      by (no n) = absurd (omega (arith, first_from pairs rising i k (omega arith) l))

  -- pair k is one of its lower boat's
  pub pair_own : (k : ℕ) → k < listed pairs → (first_pair pairs (lower pairs k) ≤ k) × (k < first_pair pairs (suc (lower pairs k)))
  pair_own k l = (first_before pairs (lower pairs k) k l (le_refl _), pair_before (suc (lower pairs k)) k l (le_refl _))

  -- pair k is one of boat i's
  module _ (i k : ℕ) (lo : first_pair pairs i ≤ k) (hi : k < first_pair pairs (suc i)) where
    pub pair_listed : k < listed pairs
    pair_listed = omega (arith, first_le pairs (suc i))

    pub place_is : place pairs i (higher pairs k) ≡ k
    place_is = rw (first_same pairs rising i k lo hi) at (place_at pairs rising k pair_listed)

    pub pair_is : is_listed pairs i (higher pairs k) ≡ true
    pair_is = lt_listed pairs i (higher pairs k) (rw place_is pair_listed)

  pub higher_rise : (i k q : ℕ) → first_pair pairs i ≤ k → k < q → q < first_pair pairs (suc i) → higher pairs k < higher pairs q
  higher_rise i k q lo l hi =
      let e = first_same pairs rising i k lo (omega arith) in
      let f = first_same pairs rising i q (omega arith) hi in
      ⊎_elim (λ (w : lower pairs k < lower pairs q). absurd (omega arith)) (λ (w : (lower pairs k ≡ lower pairs q) × (higher pairs k < higher pairs q)). w.1)
      (rising k q l (pair_listed i q (omega arith) hi))

  -- the pair of g and x comes before those of every later boat
  pub place_before : (g i x : ℕ) → is_listed pairs g x ≡ true → g < i → place pairs g x < first_pair pairs i
  place_before g i x e l =
      let q = listed_lt pairs g x e in
      pair_before i (place pairs g x) q (rw (place_pair pairs g x q).0 l)

  -- a boat that is listed with i is the higher boat of one of them
  pub listed_pair : (i x : ℕ) → is_listed pairs i x ≡ true →
      (q : ℕ) × (first_pair pairs i ≤ q) × (q < first_pair pairs (suc i)) × (higher pairs q ≡ x)
  listed_pair i x e =
      let l = listed_lt pairs i x e in
      let s = place_pair pairs i x l in
      (place pairs i x, first_before pairs i (place pairs i x) l (omega arith), place_before i (suc i) x e (le_refl _), s.1)

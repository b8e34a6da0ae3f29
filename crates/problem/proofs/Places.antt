-- The place of a pair among the listed ones.
use mathlib.Core.Path.{◌≡◌, refl, sym, ◌∙◌}
use mathlib.Core.Logic.{⊎_elim}
use mathlib.Core.Bool.{Bool, true, false, ◌&&◌}
use mathlib.Core.List.{List}
use mathlib.Mathlib.Data.Bool.Basic.{eq-false_of_not-eq-true}
use Prim.Native.Nat.{ℕ, ◌≤◌, ◌<◌}
use native.Mathlib.Omega.{arith}
use borrow.Author.Tests.{ltb-true, lt-ltb, le-ltb, eqb-true, eq-eqb}
use lib.Dec.{T}
use Rattle.problem.specs.Tables.{Tables, boats, listed, lower, higher, is_pair, place, is_listed, allows, allowed}
use Rattle.problem.specs.Rising.{Rising}
use Rattle.problem.specs.Sane.{Sane}
use Rattle.problem.specs.Plans.{slot, keeps}
use Rattle.problem.proofs.Lowest.{lowest_here, lowest_passes, not_both}

pub both_true : (a b : Bool) → (a && b) ≡ true → (a ≡ true) × (b ≡ true)
both_true true b e = (refl, e)
both_true false b e = absurd (not_both e refl)

pub true_both : (a b : Bool) → a ≡ true → b ≡ true → (a && b) ≡ true
true_both a b p q = rw (p, q)

pub is_true : (b : Bool) → T b → b ≡ true
is_true true h = refl
is_true false h = absurd h

pub to_true : (b : Bool) → b ≡ true → T b
to_true b e = rw e tt

-- the test of a pair, from what its boats are
pub pair_here : (pairs : List ℕ) (h i k : ℕ) → lower pairs k ≡ h → higher pairs k ≡ i → is_pair pairs h i k ≡ true
pair_here pairs h i k a b = true_both _ _ (eq-eqb _ _ a) (eq-eqb _ _ b)

pub pair_elsewhere : (pairs : List ℕ) (h i k : ℕ) → (lower pairs k ≡ h → higher pairs k ≡ i → ⊥) → is_pair pairs h i k ≡ false
pair_elsewhere pairs h i k n = eq-false_of_not-eq-true (λ e. let q = both_true _ _ e in n (eqb-true _ _ q.0) (eqb-true _ _ q.1))

module _ (pairs : List ℕ) where
  -- what stands at the place of a listed pair is the pair
  pub place_pair : (h i : ℕ) → place pairs h i < listed pairs → (lower pairs (place pairs h i) ≡ h) × (higher pairs (place pairs h i) ≡ i)
  unfolding place
  place_pair h i l =
      let q = both_true _ _ (lowest_passes (listed pairs) (is_pair pairs h i) l) in
      (eqb-true _ _ q.0, eqb-true _ _ q.1)

  pub listed_lt : (h i : ℕ) → is_listed pairs h i ≡ true → place pairs h i < listed pairs
  unfolding is_listed
  listed_lt h i e = ltb-true _ _ e

  pub lt_listed : (h i : ℕ) → place pairs h i < listed pairs → is_listed pairs h i ≡ true
  unfolding is_listed
  lt_listed h i l = lt-ltb _ _ l

  pub unlisted_le : (h i : ℕ) → listed pairs ≤ place pairs h i → is_listed pairs h i ≡ false
  unfolding is_listed
  unlisted_le h i l = le-ltb _ _ l

  -- a listed pair is found where it stands
  pub place_at : Rising pairs → (k : ℕ) → k < listed pairs → place pairs (lower pairs k) (higher pairs k) ≡ k
  unfolding place
  place_at rising k l =
      lowest_here (listed pairs) (is_pair pairs (lower pairs k) (higher pairs k)) k l
      (λ j h. pair_elsewhere pairs _ _ j (λ a b. ⊎_elim (λ w. omega arith) (λ w. omega (arith, w.1)) (rising j k h l)))
      (pair_here pairs _ _ k refl refl)

-- a pair that is not listed allows everything, and a listed one what its rows say
module _ (t : Tables) (h a i b : ℕ) where
  pub allowed_unlisted : is_listed t.pairs h i ≡ false → allowed t h a i b ≡ true
  unfolding allowed
  allowed_unlisted e = rw (e, allowed)

  pub allowed_listed : is_listed t.pairs h i ≡ true → allowed t h a i b ≡ allows t (place t.pairs h i) a b
  unfolding allowed
  allowed_listed e = rw (e, allowed)

-- the lower boat of a listed pair is a boat too
pub lower_named_lem : (t : Tables) → Sane t → (k : ℕ) → k < listed t.pairs → lower t.pairs k < boats t
lower_named_lem t s k l = omega (arith, s.lower_first k l, s.boats_named k l)

-- a plan keeps every listed pair exactly when it is allowed at every two boats
module _ (t : Tables) (plan : List ℕ) where
  pub kept_allowed : ((k : ℕ) → k < listed t.pairs → T (keeps t plan k)) → (h i : ℕ) → allowed t h (slot plan h) i (slot plan i) ≡ true
  kept_allowed kept h i = by (is_listed t.pairs h i) refl
    where
      by : (b : Bool) → is_listed t.pairs h i ≡ b → allowed t h (slot plan h) i (slot plan i) ≡ true
      by false e = allowed_unlisted t h _ i _ e
      by true e =
          let l = listed_lt t.pairs h i e in
          let q = place_pair t.pairs h i l in
          allowed_listed t h _ i _ e ∙ (rw (q.0, q.1) at (is_true (keeps t plan (place t.pairs h i)) (kept (place t.pairs h i) l)))

  pub allowed_kept : Sane t → ((h i : ℕ) → h < i → i < boats t → allowed t h (slot plan h) i (slot plan i) ≡ true)
      → (k : ℕ) → k < listed t.pairs → T (keeps t plan k)
  allowed_kept s every k l =
      let e = place_at t.pairs s.rising k l in
      let h = lower t.pairs k in
      let i = higher t.pairs k in
      let q : allowed t h (slot plan h) i (slot plan i) ≡ allows t (place t.pairs h i) (slot plan h) (slot plan i) =
      allowed_listed t h _ i _ (lt_listed t.pairs h i (rw e l)) in
      to_true (keeps t plan k) (rw e at (sym q ∙ every h i (s.lower_first k l) (s.boats_named k l)))

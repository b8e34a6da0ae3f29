-- What one placed boat more leaves open, and which boat was the first to refuse.
use mathlib.Core.Path.{◌≡◌, refl, ap, ◌∙◌}
use mathlib.Core.Bool.{Bool, true, false, cond, not, ◌&&◌}
use mathlib.Core.List.{List, [], ◌∷◌, ◌++◌}
use mathlib.Core.Option.{Option, none, some}
use Prim.Native.Nat.{ℕ, suc, ◌+◌, ◌<◌}
use native.Mathlib.Omega.{arith}
use native.Mathlib.Nat.{add-zero, zero-add}
use lib.ListN.{length, take, drop}
use lib.Seq.{length-take-le, take-suc, split_at}
use borrow.Author.Tests.{eq-eqb, ne_eqb}
use Rattle.problem.specs.Tables.{Tables}
use Rattle.methods.specs.Choices.{may_stand}
use Rattle.methods.proofs.Runs.{at}
use Rattle.methods.proofs.Looking.{refuser_some}
use Rattle.methods.specs.ByPlan.{refuser, is_none, is_first, is_open}

-- the first of two, where there is one
abbrev first_of : Option ℕ → Option ℕ → Option ℕ
first_of none y = y
first_of (some g) y = some g

module _ (t : Tables) (j b : ℕ) where
  refuser_append : (h : ℕ) (xs ys : List ℕ) → refuser t j b h (xs ++ ys) ≡ first_of (refuser t j b h xs) (refuser t j b (h + length xs) ys)
  unfolding refuser
  refuser_append h [] ys = rw (add-zero h)
  refuser_append h (x ∷ xs) ys = by (may_stand t h x j b) (refuser_append (suc h) xs ys)
    where
      by : (m : Bool) → refuser t j b (suc h) (xs ++ ys) ≡ first_of (refuser t j b (suc h) xs) (refuser t j b (suc h + length xs) ys) →
          cond m (refuser t j b (suc h) (xs ++ ys)) (some h) ≡ first_of (cond m (refuser t j b (suc h) xs) (some h)) (refuser t j b (h + suc (length xs)) ys)
      by true e = let z : h + suc (length xs) ≡ suc h + length xs = omega arith in rw z e
      by false e = refl

  refuser_one : (h x : ℕ) → refuser t j b h (x ∷ []) ≡ cond (may_stand t h x j b) none (some h)
  unfolding refuser
  refuser_one h x = refl

  refuser_cons : (h x : ℕ) (xs : List ℕ) → refuser t j b h (x ∷ xs) ≡ cond (may_stand t h x j b) (refuser t j b (suc h) xs) (some h)
  unfolding refuser
  refuser_cons h x xs = refl

  -- one boat more
  pub open_snoc : (p : List ℕ) (a : ℕ) → is_open t (p ++ (a ∷ [])) j b ≡ (is_open t p j b && may_stand t (length p) a j b)
  unfolding is_open
  open_snoc p a = ap is_none (refuser_append 0 p (a ∷ []) ∙ ap (first_of (refuser t j b 0 p)) (ap (λ (h : ℕ). refuser t j b h (a ∷ [])) (zero-add (length p)) ∙ refuser_one (length p) a)) ∙ by (refuser t j b 0 p) (may_stand t (length p) a j b)
    where
      by : (x : Option ℕ) (m : Bool) → is_none (first_of x (cond m none (some (length p)))) ≡ (is_none x && m)
      by none true = refl
      by none false = refl
      by (some h) m = refl

  pub open_suc : (p : List ℕ) (g : ℕ) → g < length p → is_open t (take (suc g) p) j b ≡ (is_open t (take g p) j b && may_stand t g (at p g) j b)
  open_suc p g lg = rw (take-suc p g 0 lg) (rw (length-take-le g p (omega arith)) at (open_snoc (take g p) (at p g)))

  pub open_nil : is_open t [] j b ≡ true
  unfolding is_open refuser
  open_nil = refl

  -- boat g was the first to refuse exactly when the boats before it leave the choice open, and it does not
  pub first_at : (p : List ℕ) (g : ℕ) → g < length p → is_first g (refuser t j b 0 p) ≡ (is_open t (take g p) j b && not (may_stand t g (at p g) j b))
  unfolding is_open
  first_at p g lg =
      ap (λ (q : List ℕ). is_first g (refuser t j b 0 q)) (split_at p g 0 lg)
      ∙ ap (is_first g) (refuser_append 0 (take g p) (at p g ∷ drop (suc g) p) ∙ ap (first_of (refuser t j b 0 (take g p))) (ap (λ (h : ℕ). refuser t j b h (at p g ∷ drop (suc g) p)) (zero-add (length (take g p)) ∙ long) ∙ refuser_cons g (at p g) (drop (suc g) p)))
      ∙ by (refuser t j b 0 (take g p)) refl (may_stand t g (at p g) j b) (refuser t j b (suc g) (drop (suc g) p)) refl
    where
      long : length (take g p) ≡ g
      long = length-take-le g p (omega arith)

      later : (y : Option ℕ) → refuser t j b (suc g) (drop (suc g) p) ≡ y → is_first g y ≡ false
      later none e = refl
      later (some k) e = let w = refuser_some t j b (suc g) (drop (suc g) p) k e in ne_eqb k g (omega arith)

      by : (x : Option ℕ) → refuser t j b 0 (take g p) ≡ x → (m : Bool) (y : Option ℕ) → refuser t j b (suc g) (drop (suc g) p) ≡ y →
          is_first g (first_of x (cond m y (some g))) ≡ (is_none x && not m)
      by none e true y f = later y f
      by none e false y f = eq-eqb g g refl
      by (some k) e m y f = let w = refuser_some t j b 0 (take g p) k e in ne_eqb k g (omega (arith, long))

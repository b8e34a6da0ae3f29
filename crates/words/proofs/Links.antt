-- The links of a boat: where they are, and how one more boat is passed.
use mathlib.Core.Path.{◌≡◌, ◌∙◌}
use mathlib.Core.Bool.{true, false}
use mathlib.Core.List.{List}
use Prim.Native.Nat.{ℕ, suc, ◌+◌, ◌-◌, ◌≤◌, ◌<◌}
use native.Mathlib.Omega.{arith}
use Rattle.problem.specs.Tables.{Tables, is_listed}
use Rattle.words.specs.Layout.{word}
use Rattle.words.specs.Links.{link_of, Links}
use Rattle.words.specs.Links.Links.{none, past, link}

module _ {t : Tables} {w : List ℕ} {i b : ℕ} where
  -- at most one for each boat passed
  pub links_bounds : {h q e : ℕ} → Links t w i b h q e → (q ≤ e) × (h ≤ b) × (e ≤ q + (b - h))
  links_bounds none = omega arith
  links_bounds (past u r) = let ih = links_bounds r in omega arith
  links_bounds (link l z r) = let ih = links_bounds r in omega arith

  -- they stay while their words do
  pub links_stay : {w' : List ℕ} {h q e : ℕ} → ((k : ℕ) → q ≤ k → k < e → word w' (512 + k) ≡ word w (512 + k)) → Links t w i b h q e → Links t w' i b h q e
  links_stay same none = none
  links_stay same (past u r) = past u (links_stay same r)
  links_stay same (link l z r) =
      let ih = links_bounds r in
      link l (same _ (omega arith) (omega arith) ∙ z) (links_stay (λ k lo hi. same k (omega arith) hi) r)

  -- boat b too, which is not listed
  pub links_past : {h q e : ℕ} → is_listed t.pairs b i ≡ false → Links t w i b h q e → Links t w i (suc b) h q e
  links_past u none = past u none
  links_past u (past v r) = past v (links_past u r)
  links_past u (link l z r) = link l z (links_past u r)

  -- boat b too, whose link is the next word
  pub links_link : {h q e : ℕ} → is_listed t.pairs b i ≡ true → word w (512 + e) ≡ link_of t b i → Links t w i b h q e → Links t w i (suc b) h q (suc e)
  links_link l z none = link l z none
  links_link l z (past v r) = past v (links_link l z r)
  links_link l z (link m y r) = link m y (links_link l z r)

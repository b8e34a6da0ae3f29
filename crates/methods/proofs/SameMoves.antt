-- Two forward moves that do the same, whatever each remembers: stepping over them makes the same search from any place, and so does jumping.
use mathlib.Core.Path.{◌≡◌, refl, ap, ap₂, subst, fun_ext}
use mathlib.Core.Bool.{true, false}
use mathlib.Core.List.{List, [], ◌∷◌, ◌++◌}
use mathlib.Core.Option.{Option, none, some}
use Prim.Native.Nat.{ℕ, zero, suc, ◌<◌}
use native.Mathlib.Omega.{arith}
use lib.ListN.{length, take}
use Rattle.problem.specs.Tables.{Tables, boats}
use Rattle.methods.specs.Choices.{choices}
use Rattle.methods.specs.Machine.{search_inside}
use Rattle.methods.specs.Moves.{Boats, Verdict, pass, fail, Forward, passes, remembered, one_back, stepping}
use Rattle.methods.specs.CBJ.{Sets, Jumping, blamed, deepest, handed_down, jump, to_blame, jumping}
use Rattle.methods.proofs.Same.{SameWay, both_nowhere, both_back, Alike, same_inside}

-- both pass, and P holds of what is then remembered; or both fail, and the same boats are to blame
module _ {S S' : Type 0} (P : S → S' → Type 0) where
  pub data SameVerdict : Verdict S → Verdict S' → Type 0 where
    both_pass : {σ : S} {τ : S'} → P σ τ → SameVerdict (pass σ) (pass τ)
    both_fail : {s u : Boats} → s ≡ u → SameVerdict (fail s) (fail u)

  same_passes : {v : Verdict S} {w : Verdict S'} → SameVerdict v w → passes v ≡ passes w
  same_passes (both_pass k) = refl
  same_passes (both_fail e) = refl

  after_pass : {v : Verdict S} {w : Verdict S'} → SameVerdict v w → passes v ≡ true → (σ : S) (τ : S') → P (remembered σ v) (remembered τ w)
  after_pass (both_pass k) m σ τ = k
  after_pass (both_fail e) m σ τ = let z : ◌≡◌ {A = ℕ} 0 1 = cc in absurd (omega arith)

  -- a trial that fails leaves what is remembered
  after_fail : (Q : S → S' → Type 0) {v : Verdict S} {w : Verdict S'} → SameVerdict v w → passes v ≡ false → (σ : S) (τ : S') → Q σ τ →
      Q (remembered σ v) (remembered τ w)
  after_fail Q (both_pass k) m σ τ q = let z : ◌≡◌ {A = ℕ} 0 1 = cc in absurd (omega arith)
  after_fail Q (both_fail e) m σ τ q = q

  -- and the same boats come into the sets
  same_blamed : (i : ℕ) {c d : Sets} → c ≡ d → {v : Verdict S} {w : Verdict S'} → SameVerdict v w → blamed c i v ≡ blamed d i w
  same_blamed i f (both_pass {σ = σ} k) = ap (λ (x : Sets). blamed x i (pass σ)) f
  same_blamed i f (both_fail e) = ap₂ (λ (x : Sets) (y : Boats). blamed x i {S = S} (fail y)) f e

-- what the two remember is related, and their conflict sets are the same
abbrev pub WithSets : {S S' : Type 0} → (List ℕ → S → S' → Type 0) → List ℕ → ℕ → Jumping S → Jumping S' → Type 0
WithSets K p a σ τ = K p σ.rest τ.rest × (σ.sets ≡ τ.sets)

module _ (t : Tables) {S S' : Type 0} (F : Forward S) (G : Forward S') (K : List ℕ → S → S' → Type 0) where
  -- what the two remember at a plan so far is related by K: then they do the same, and K is kept
  pub record Twins : Type 0 where
    pub same_live : (p : List ℕ) (a : ℕ) (σ : S) (τ : S') → K p σ τ → length p < boats t → a < choices t (length p) → F.live σ p a ≡ G.live τ p a
    pub same_checks : (p : List ℕ) (a : ℕ) (σ : S) (τ : S') → K p σ τ → length p < boats t → a < choices t (length p) → F.live σ p a ≡ true →
        (F.trial σ p a).checks ≡ (G.trial τ p a).checks
    pub same_verdict : (p : List ℕ) (a : ℕ) (σ : S) (τ : S') → K p σ τ → length p < boats t → a < choices t (length p) → F.live σ p a ≡ true →
        SameVerdict (K (p ++ (a ∷ []))) (F.trial σ p a).verdict (G.trial τ p a).verdict
    pub same_blamers : (p : List ℕ) (σ : S) (τ : S') → K p σ τ → length p < boats t → F.blamers σ p ≡ G.blamers τ p
    pub keep_back : (p : List ℕ) (h : ℕ) (σ : S) (τ : S') → K p σ τ → length p < boats t → h < length p → K (take h p) (F.put_back h σ) (G.put_back h τ)

  module _ (W : Twins) where
    pub stepping_alike : Alike t (stepping F) (stepping G) (λ p a σ τ. K p σ τ)
    stepping_alike =
        record {
          same_ready = λ p a σ τ k lp la. (refl, W.same_live p a σ τ k lp la);
          keep_skip = λ p a σ τ k lp la m. k;
          same_label = λ p a σ τ k lp la m. (W.same_checks p a σ τ k lp la m, same_passes (K (p ++ (a ∷ []))) (W.same_verdict p a σ τ k lp la m));
          keep_fail = λ p a σ τ k lp la m e. after_fail (K (p ++ (a ∷ []))) (K p) (W.same_verdict p a σ τ k lp la m) e σ τ k;
          keep_pass = λ p a σ τ k lp la m e. after_pass (K (p ++ (a ∷ []))) (W.same_verdict p a σ τ k lp la m) e σ τ;
          same_way = λ p a σ τ k lp la. by p σ τ k lp (length p);
        }
      where
        by : (p : List ℕ) (σ : S) (τ : S') → K p σ τ → length p < boats t → (i : ℕ) →
            SameWay (λ q b (x : S) (y : S'). K q x y) p (one_back i (λ h. F.put_back h σ)) (one_back i (λ h. G.put_back h τ))
        by p σ τ k lp zero = both_nowhere
        by p σ τ k lp (suc h) = both_back (λ l. W.keep_back p h σ τ k lp l)

    -- stepping over the one is stepping over the other
    pub same_stepping : (made : ℕ) (p : List ℕ) (a : ℕ) (σ : S) (τ : S') → K p σ τ → search_inside t (stepping F) made p a σ ≡ search_inside t (stepping G) made p a τ
    same_stepping made p a σ τ k = same_inside t (stepping F) (stepping G) (λ p a σ τ. K p σ τ) stepping_alike made k

    -- ---- with conflict sets
    same_to_blame : (p : List ℕ) (a : ℕ) (σ : Jumping S) (τ : Jumping S') → WithSets K p a σ τ → length p < boats t → to_blame F σ p ≡ to_blame G τ p
    same_to_blame p a σ τ k lp =
        let s = k.1 in
        let b = W.same_blamers p σ.rest τ.rest k.0 lp in
        fun_ext (λ j. cc)

    same_jump : (p : List ℕ) (a : ℕ) (σ : Jumping S) (τ : Jumping S') → WithSets K p a σ τ → length p < boats t → (s : Boats) (x : Option ℕ) →
        SameWay (WithSets K) p (jump F σ (length p) s x) (jump G τ (length p) s x)
    same_jump p a σ τ k lp s none = both_nowhere
    same_jump p a σ τ k lp s (some h) =
        both_back (λ l. (W.keep_back p h σ.rest τ.rest k.0 lp l, ap (λ (c : Sets). handed_down c (length p) h s) k.1))

    pub jumping_alike : Alike t (jumping t F) (jumping t G) (WithSets K)
    jumping_alike =
        record {
          same_ready = λ p a σ τ k lp la. (refl, W.same_live p a σ.rest τ.rest k.0 lp la);
          keep_skip = λ p a σ τ k lp la m. k;
          same_label = λ p a σ τ k lp la m.
              (W.same_checks p a σ.rest τ.rest k.0 lp la m, same_passes (K (p ++ (a ∷ []))) (W.same_verdict p a σ.rest τ.rest k.0 lp la m));
          keep_fail = λ p a σ τ k lp la m e.
              let v = W.same_verdict p a σ.rest τ.rest k.0 lp la m in
              (after_fail (K (p ++ (a ∷ []))) (K p) v e σ.rest τ.rest k.0, same_blamed (K (p ++ (a ∷ []))) (length p) k.1 v);
          keep_pass = λ p a σ τ k lp la m e.
              let v = W.same_verdict p a σ.rest τ.rest k.0 lp la m in
              (after_pass (K (p ++ (a ∷ []))) v e σ.rest τ.rest, same_blamed (K (p ++ (a ∷ []))) (length p) k.1 v);
          same_way = λ p a σ τ k lp la.
              subst (λ (s : Boats). SameWay (WithSets K) p (jump F σ (length p) (to_blame F σ p) (deepest (boats t) (to_blame F σ p))) (jump G τ (length p) s (deepest (boats t) s)))
              (same_to_blame p a σ τ k lp) (same_jump p a σ τ k lp (to_blame F σ p) (deepest (boats t) (to_blame F σ p)));
        }

    -- jumping over the one is jumping over the other
    pub same_jumping : (made : ℕ) (p : List ℕ) (a : ℕ) (σ : Jumping S) (τ : Jumping S') → WithSets K p a σ τ →
        search_inside t (jumping t F) made p a σ ≡ search_inside t (jumping t G) made p a τ
    same_jumping made p a σ τ k = same_inside t (jumping t F) (jumping t G) (WithSets K) jumping_alike made k

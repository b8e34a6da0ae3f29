-- The laws on members: in every place that a jumping search comes to, each boat's conflict set holds lower boats alone, and so does what the boat at
-- hand would jump by, its set with its blamers.
use mathlib.Core.Path.{◌≡◌, refl, subst}
use mathlib.Core.Bool.{Bool, true, false, cond}
use mathlib.Core.List.{List, [], ◌∷◌, ◌++◌}
use mathlib.Core.Logic.{◌≢◌}
use mathlib.Core.Option.{some}
use Prim.Native.Nat.{ℕ, ◌≤◌, ◌<◌}
use native.Mathlib.Omega.{arith}
use native.Mathlib.Decide.{ℕ_discrete}
use native.Mathlib.Nat.{lt_trans}
use borrow.Author.Tests.{eq-eqb, ne_eqb}
use lib.Dec.{T, eqb}
use lib.ListN.{length, take}
use Rattle.problem.specs.Tables.{Tables, boats}
use Rattle.problem.proofs.Places.{to_true}
use Rattle.events.specs.Events.{Event}
use Rattle.methods.specs.Machine.{next, step}
use Rattle.methods.specs.Moves.{Boats, Verdict, pass, fail, passes, remembered, Forward}
use Rattle.methods.specs.CBJ.{Sets, Jumping, blamed, deepest, handed_down, to_blame, jumping}
use Rattle.methods.proofs.Runs.{stop_or_next, next_same, View, at_end_lem, at_out, at_back, at_astray, at_skip, at_fail, at_pass, view}
use Rattle.methods.specs.Reached.{Reached, start, later}
use Rattle.methods.proofs.Sets.{deepest_some, jump_back}

-- ---- sets alone
abbrev pub MembersBelow : Sets → Type 0
MembersBelow sets = (k j : ℕ) → T (sets k j) → j < k

none_in : (b : Bool) → T b → b ≡ false → ⊥
none_in b x e = subst (λ (c : Bool). T c) e x

empty_anyway : (c : Bool) → cond c false false ≡ false
empty_anyway true = refl
empty_anyway false = refl

module _ (sets : Sets) (w : MembersBelow sets) (i : ℕ) where
  -- a trial of boat i that passes adds no boat
  passed_members : {S : Type 0} (τ : S) → MembersBelow (blamed sets i (pass τ))
  passed_members τ k j x = by (sets k j) refl (eqb k i) refl
    where
      by : (b : Bool) → sets k j ≡ b → (c : Bool) → eqb k i ≡ c → j < k
      by true e c f = w k j (to_true (sets k j) e)
      by false e true f = absurd (none_in (blamed sets i (pass τ) k j) x cc)
      by false e false f = absurd (none_in (blamed sets i (pass τ) k j) x cc)

  -- one that fails adds lower boats to the set of i
  pub blamed_members : (s : Boats) → ((j : ℕ) → T (s j) → j < i) → MembersBelow (blamed sets i {S = Unit {0}} (fail s))
  blamed_members s below k j x = by (sets k j) refl (s j) refl (ℕ_discrete k i)
    where
      by : (b : Bool) → sets k j ≡ b → (c : Bool) → s j ≡ c → Dec (k ≡ i) → j < k
      by true e c m d = w k j (to_true (sets k j) e)
      by false e true m (yes y) = rw y (below j (to_true (s j) m))
      by false e false m (yes y) = absurd (none_in (blamed sets i {S = Unit {0}} (fail s) k j) x (simp (eq-eqb k i y, e, m)))
      by false e c m (no n) = absurd (none_in (blamed sets i {S = Unit {0}} (fail s) k j) x (simp (ne_eqb k i n, e)))

  -- boats of which h is the deepest are handed down to h
  pub handed_members : (s : Boats) (h : ℕ) → ((j : ℕ) → T (s j) → j ≤ h) → MembersBelow (handed_down sets i h s)
  handed_members s h deep k j x = by (ℕ_discrete k h)
    where
      at_h : T (handed_down sets i h s h j) → (b : Bool) → sets h j ≡ b → (c : Bool) → s j ≡ c → Dec (j ≡ h) → j < h
      at_h y true e c m d = w h j (to_true (sets h j) e)
      at_h y false e true m (yes q) = absurd (none_in (handed_down sets i h s h j) y (simp (eq-eqb h h refl, e, m, eq-eqb j h q)))
      at_h y false e true m (no n) = let l = deep j (to_true (s j) m) in omega arith
      at_h y false e false m d = absurd (none_in (handed_down sets i h s h j) y (simp (eq-eqb h h refl, e, m)))

      elsewhere : k ≢ h → (b : Bool) → sets k j ≡ b → j < k
      elsewhere n true e = w k j (to_true (sets k j) e)
      elsewhere n false e = absurd (none_in (handed_down sets i h s k j) x (simp (ne_eqb k h n, e, empty_anyway)))

      by : Dec (k ≡ h) → j < k
      by (yes e) = rw e (at_h (rw e at x) (sets h j) refl (s j) refl (ℕ_discrete j h))
      by (no n) = elsewhere n (sets k j) refl

module _ {S : Type 0} (F : Forward S) where
  -- i's set with i's blamers
  pub to_blame_members : (p : List ℕ) (σ : Jumping S) → MembersBelow σ.sets → ((j : ℕ) → T (F.blamers σ.rest p j) → j < length p) →
      (j : ℕ) → T (to_blame F σ p j) → j < length p
  to_blame_members p σ w below j x = by (σ.sets (length p) j) refl (F.blamers σ.rest p j) refl
    where
      by : (b : Bool) → σ.sets (length p) j ≡ b → (c : Bool) → F.blamers σ.rest p j ≡ c → j < length p
      by true e c f = w (length p) j (to_true (σ.sets (length p) j) e)
      by false e true f = below j (to_true (F.blamers σ.rest p j) f)
      by false e false f = absurd (none_in (to_blame F σ p j) x (simp (e, f)))

  -- ---- a forward move that blames placed boats alone. `Placed` says of what is remembered at a plan so far that it names placed boats alone
  module _ (Placed : List ℕ → S → Type 0) where
    -- a verdict on choice a: what is remembered after it, or the boats to blame
    abbrev pub Judged : List ℕ → ℕ → Verdict S → Type 0
    Judged p a (pass τ) = Placed (p ++ (a ∷ [])) τ
    Judged p a (fail s) = (j : ℕ) → T (s j) → j < length p

    pub record BlamesPlaced : Type 0 where
      pub begin : Placed [] F.start
      pub judged : (p : List ℕ) (a : ℕ) (σ : S) → Placed p σ → Judged p a (F.trial σ p a).verdict
      pub blamed : (p : List ℕ) (σ : S) → Placed p σ → (j : ℕ) → T (F.blamers σ p j) → j < length p
      pub kept : (p : List ℕ) (h : ℕ) (σ : S) → Placed p σ → h < length p → Placed (take h p) (F.put_back h σ)

module _ (t : Tables) {S : Type 0} (F : Forward S) (Placed : List ℕ → S → Type 0) (B : BlamesPlaced F Placed) where
  -- what is known in each place
  record Known (p : List ℕ) (σ : Jumping S) : Type 0 where
    pub members : MembersBelow σ.sets
    pub placed : Placed p σ.rest

  module _ (p : List ℕ) (a : ℕ) (σ : Jumping S) (K : Known p σ) where
    -- a trial
    known_fail : (v : Verdict S) → Judged F Placed p a v → passes v ≡ false → Known p (record { sets = blamed σ.sets (length p) v; rest = remembered σ.rest v })
    known_fail (pass τ) w u = let z : ◌≡◌ {A = ℕ} 0 1 = cc in absurd (omega arith)
    known_fail (fail s) w u = record { members = blamed_members σ.sets K.members (length p) s w; placed = K.placed }

    known_pass : (v : Verdict S) → Judged F Placed p a v → passes v ≡ true → Known (p ++ (a ∷ [])) (record { sets = blamed σ.sets (length p) v; rest = remembered σ.rest v })
    known_pass (pass τ) w u = record { members = passed_members σ.sets K.members (length p) τ; placed = w }
    known_pass (fail s) w u = let z : ◌≡◌ {A = ℕ} 0 1 = cc in absurd (omega arith)

    -- back to the deepest that is to blame
    known_back : length p < boats t → (h : ℕ) → deepest (boats t) (to_blame F σ p) ≡ some h → h < length p →
        Known (take h p) (record { sets = handed_down σ.sets (length p) h (to_blame F σ p); rest = F.put_back h σ.rest })
    known_back lp h e lh =
        record {
          members = handed_members σ.sets K.members (length p) (to_blame F σ p) h
              (λ j x. (deepest_some (boats t) h (to_blame F σ p) e).1 j (lt_trans (to_blame_members F p σ K.members (B.blamed p σ.rest K.placed) j x) lp) x);
          placed = B.kept p h σ.rest K.placed lh;
        }

  moved : (p : List ℕ) (a : ℕ) (σ : Jumping S) {es es₁ : List Event} {p₁ p₂ : List ℕ} {a₁ a₂ : ℕ} {σ₁ σ₂ : Jumping S} →
      step t (jumping t F) p a σ ≡ next es p₂ a₂ σ₂ → step t (jumping t F) p a σ ≡ next es₁ p₁ a₁ σ₁ → Known p₁ σ₁ → Known p₂ σ₂
  moved p a σ e s K = let z = next_same (step t (jumping t F) p a σ) e s in rw (z.1, z.3) K

  known_next : (p : List ℕ) (a : ℕ) (σ : Jumping S) → Known p σ → {es : List Event} {p₁ : List ℕ} {a₁ : ℕ} {σ₁ : Jumping S} →
      step t (jumping t F) p a σ ≡ next es p₁ a₁ σ₁ → View t (jumping t F) p a σ → Known p₁ σ₁
  known_next p a σ K e (at_end_lem h s) = absurd (stop_or_next (step t (jumping t F) p a σ) s e)
  known_next p a σ K e (at_out h l m s) = absurd (stop_or_next (step t (jumping t F) p a σ) s e)
  known_next p a σ K e (at_back lp l h τ m lh s) =
      let z = jump_back F σ (length p) (to_blame F σ p) _ h τ m in
      moved p a σ e s (rw z.1 (known_back p a σ K lp h z.0 lh))
  known_next p a σ K e (at_astray h l j τ m b s) = absurd (stop_or_next (step t (jumping t F) p a σ) s e)
  known_next p a σ K e (at_skip h l m s) = moved p a σ e s K
  known_next p a σ K e (at_fail h l m u s) = moved p a σ e s (known_fail p a σ K (F.trial σ.rest p a).verdict (B.judged p a σ.rest K.placed) u)
  known_next p a σ K e (at_pass h l m u s) = moved p a σ e s (known_pass p a σ K (F.trial σ.rest p a).verdict (B.judged p a σ.rest K.placed) u)

  reached_known : {p : List ℕ} {a : ℕ} {σ : Jumping S} → Reached t (jumping t F) p a σ → Known p σ
  reached_known start = record { members = λ k j x. absurd x; placed = B.begin }
  reached_known (later {p = p} {a = a} {σ = σ} X e) = known_next p a σ (reached_known X) e (view t (jumping t F) p a σ)

  -- THE LAWS ON MEMBERS
  pub members_below : {p : List ℕ} {a : ℕ} {σ : Jumping S} → Reached t (jumping t F) p a σ → MembersBelow σ.sets
  members_below X = (reached_known X).members

  pub to_blame_below_lem : {p : List ℕ} {a : ℕ} {σ : Jumping S} → Reached t (jumping t F) p a σ → (j : ℕ) → T (to_blame F σ p j) → j < length p
  to_blame_below_lem {p} {a} {σ} X = let K = reached_known X in to_blame_members F p σ K.members (B.blamed p σ.rest K.placed)

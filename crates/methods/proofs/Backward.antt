-- Looking back is an honest forward move: a choice that it fails is barred by the boat to blame, and one that it passes is allowed by all.
use mathlib.Core.Path.{◌≡◌, refl, sym, ap, ◌∙◌, subst}
use mathlib.Core.Bool.{false}
use mathlib.Core.List.{List}
use mathlib.Core.Option.{Option, none, some}
use Prim.Native.Nat.{ℕ, ◌<◌}
use native.Mathlib.Omega.{arith}
use native.Mathlib.Nat.{zero-add}
use lib.Dec.{T, eqb→eq, eqb_refl}
use lib.ListN.{length}
use Rattle.problem.specs.Tables.{Tables, boats}
use Rattle.methods.specs.Choices.{may_stand}
use Rattle.methods.specs.Moves.{Boats, only, pass, fail}
use Rattle.methods.specs.BT.{look_back, blame_failing, looking_back}
use Rattle.methods.proofs.Runs.{at}
use Rattle.methods.proofs.Sound.{Bars, Honest}
use Rattle.methods.proofs.Members.{Judged, BlamesPlaced}
use Rattle.methods.specs.ByPlan.{refuser}
use Rattle.methods.proofs.Looking.{failing_is, refuser_some, refuser_none}

-- what a verdict says of the failing boat
blamed_is : (x : Option ℕ) (s : Boats) → blame_failing x ≡ fail s → (h : ℕ) × (x ≡ some h) × (only h ≡ s)
blamed_is none s e = let z : ◌≡◌ {A = ℕ} 0 1 = cc in absurd (omega arith)
blamed_is (some h) s e = (h, refl, cc)

pass_is : (x : Option ℕ) → blame_failing x ≡ pass tt → x ≡ none
pass_is none e = refl
pass_is (some h) e = let z : ◌≡◌ {A = ℕ} 0 1 = cc in absurd (omega arith)

module _ (t : Tables) where
  -- the boat to blame is placed, and does not allow the choice
  blamed_boat : (p : List ℕ) (a : ℕ) (s : Boats) → blame_failing (look_back t (length p) a 0 p).failing ≡ fail s →
      (h : ℕ) × (only h ≡ s) × (h < length p) × (may_stand t h (at p h) (length p) a ≡ false)
  blamed_boat p a s e =
      let r = blamed_is (look_back t (length p) a 0 p).failing s e in
      let w = refuser_some t (length p) a 0 p r.0 (sym (failing_is t (length p) a 0 p) ∙ r.1) in
      let k : w.0 ≡ r.0 = omega arith in
      (r.0, r.2, omega arith, rw k at w.3)

  back_below : (p : List ℕ) (a : ℕ) (s : Boats) → blame_failing (look_back t (length p) a 0 p).failing ≡ fail s → (j : ℕ) → T (s j) → j < length p
  back_below p a s e j x =
      let w = blamed_boat p a s e in
      let y = eqb→eq j w.0 (subst (λ (u : Boats). T (u j)) (sym w.1) x) in
      omega arith

  back_failed : (p : List ℕ) (a : ℕ) (s : Boats) → length p < boats t → blame_failing (look_back t (length p) a 0 p).failing ≡ fail s →
      Bars t (λ j. T (s j)) p (length p) a
  back_failed p a s lp e q law agree ea =
      let w = blamed_boat p a s e in
      let h : ℕ = w.0 in
      let ah : at q h ≡ at p h = agree h (subst (λ (u : Boats). T (u h)) w.1 (eqb_refl h)) in
      let f : T (may_stand t h (at p h) (length p) a) = rw (ah, ea) at (law.fine h (length p) w.2 lp) in
      rw w.3 at f

  back_passed : (p : List ℕ) (a : ℕ) → blame_failing (look_back t (length p) a 0 p).failing ≡ pass tt → (h : ℕ) → h < length p → T (may_stand t h (at p h) (length p) a)
  back_passed p a e h lh =
      let n : refuser t (length p) a 0 p ≡ none = sym (failing_is t (length p) a 0 p) ∙ pass_is (look_back t (length p) a 0 p).failing e in
      rw (zero-add h) at (refuser_none t (length p) a 0 p n h lh)

  -- BT and CBJ step and jump over an honest forward move
  pub back_honest : Honest t (looking_back t)
  unfolding looking_back
  back_honest =
      record {
        blame_below = λ p j f x. absurd x;
        struck = λ p a f lp la e. let z : ◌≡◌ {A = ℕ} 0 1 = cc in absurd (omega arith);
        fail_below = λ p a s f lp la e v. back_below p a s v;
        failed = λ p a s f lp la e v. back_failed p a s lp v;
        passed = λ p a f lp la e v. back_passed p a v;
      }

  -- and the boats that it blames are placed
  pub back_placed : BlamesPlaced (looking_back t) (λ p σ. Unit {0})
  unfolding looking_back
  back_placed = record { begin = tt; judged = λ p a σ k. by p a _ refl; blamed = λ p σ k j x. absurd x; kept = λ p h σ k lh. tt }
    where
      by : (p : List ℕ) (a : ℕ) (x : Option ℕ) → (look_back t (length p) a 0 p).failing ≡ x → Judged (looking_back t) (λ p σ. Unit {0}) p a (blame_failing x)
      by p a none e = tt
      by p a (some h) e = back_below p a (only h) (ap blame_failing e)

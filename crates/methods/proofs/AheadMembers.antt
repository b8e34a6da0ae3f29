-- Forward checking blames placed boats alone, so FC-CBJ's conflict sets hold lower boats alone.
use mathlib.Core.Path.{◌≡◌, subst}
use mathlib.Core.Bool.{Bool, false}
use mathlib.Core.List.{List, [], ◌∷◌, ◌++◌}
use mathlib.Core.Logic.{◌⊎◌, inl, inr}
use mathlib.Core.Option.{Option, none, some}
use Prim.Native.Nat.{ℕ, ◌+◌, ◌<◌}
use native.Mathlib.Omega.{arith}
use native.Mathlib.Nat.{le_of_lt}
use native.Mathlib.Decide.{dec_lt, ℕ_discrete}
use borrow.Author.Tests.{le-ltb, ne_eqb}
use lib.Dec.{T}
use lib.ListN.{length, take, length-append}
use lib.Seq.{length-take-le}
use Rattle.problem.specs.Tables.{Tables}
use Rattle.methods.specs.Choices.{choices}
use Rattle.methods.specs.FC.{Strikes, strikers, struck, end_of_sweep, put_back_from, looking_ahead}
use Rattle.methods.proofs.Sets.{or_cases}
use Rattle.methods.proofs.Members.{Judged, BlamesPlaced}
use Rattle.methods.proofs.Ahead.{some?_elim}

-- a boat that struck is placed
abbrev pub StruckByPlaced : List ℕ → Strikes → Type 0
StruckByPlaced p s = (h j b : ℕ) → T (s h j b) → h < length p

module _ (t : Tables) (p : List ℕ) (s : Strikes) (k : StruckByPlaced p s) where
  strikers_placed : (j h : ℕ) → T (strikers t s j h) → h < length p
  unfolding strikers
  strikers_placed j h x = let w = some?_elim (choices t j) (λ b. s h j b) x in k h j w.0 w.2

  -- a trial that passes: only the boat at hand, now placed, has struck more
  struck_placed : (a : ℕ) → StruckByPlaced (p ++ (a ∷ [])) (struck t s (length p) a)
  unfolding struck
  struck_placed a h j b x = simp length-append (by (ℕ_discrete h (length p)))
    where
      old : T (s h j b) ⊎ T false → h < length p + 1
      old (inl y) = omega (arith, k h j b y)
      old (inr y) = absurd y

      by : Dec (h ≡ length p) → h < length p + 1
      by (yes e) = omega arith
      by (no ne) = old (or_cases (s h j b) false (rw (ne_eqb h (length p) ne) at x))

  -- a trial that fails: those to blame struck before it
  swept_placed : (a : ℕ) (emptied : Option ℕ) → Judged (looking_ahead t) StruckByPlaced p a (end_of_sweep t s (length p) a emptied)
  unfolding end_of_sweep
  swept_placed a none = struck_placed a
  swept_placed a (some j) = λ h x. strikers_placed _ h x

  -- going back: what the boats before h struck stays
  kept_placed : (h : ℕ) → h < length p → StruckByPlaced (take h p) (put_back_from h s)
  unfolding put_back_from
  kept_placed h lh g j b x = rw (length-take-le h p (le_of_lt lh)) (by (dec_lt g h))
    where
      by : Dec (g < h) → g < h
      by (yes l) = l
      by (no nl) =
          let e = le-ltb g h (omega arith) in
          let z : put_back_from h s g j b ≡ false = cc in
          absurd (subst (λ (c : Bool). T c) z x)

pub ahead_placed : (t : Tables) → BlamesPlaced (looking_ahead t) StruckByPlaced
unfolding looking_ahead
ahead_placed t =
    record {
      begin = λ h j b x. absurd x;
      judged = λ p a s k. swept_placed t p s k a _;
      blamed = λ p s k j x. strikers_placed t p s k (length p) j x;
      kept = λ p h s k lh. kept_placed t p s k h lh;
    }

-- The choices of a boat that are tried, or passed over, and given up, one after the other. (A visit of a boat is made of them.)
use Rattle.std.specs.Prelude.{◌≡◌, List, [], ◌++◌, ℕ, suc}
use Rattle.problem.specs.Tables.{Tables}
use Rattle.events.specs.Events.{Event}
use Rattle.methods.specs.Machine.{Steps, next, step}

-- from choice a of the boat at hand on, with σ remembered: the choices before b are given up, with these events in all, and τ is remembered then
module _ (t : Tables) {S : Type 0} (M : Steps S) (p : List ℕ) (a : ℕ) (σ : S) where
  pub data GivenUp : List Event → (b : ℕ) → (τ : S) → Type 0 where
    none : GivenUp [] a σ
    more : {es : List Event} {b : ℕ} {τ : S} {fs : List Event} {υ : S} → GivenUp es b τ → step t M p b τ ≡ next fs p (suc b) υ → GivenUp (es ++ fs) (suc b) υ

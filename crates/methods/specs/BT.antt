-- BT, plain backtracking: at boat i each choice in turn is checked against boats 0, 1, .. i - 1; the first that passes moves on to i + 1;
-- no choice left: back to i - 1, which gives up its choice and goes on with its next; from boat 0: no plan.
use Rattle.std.specs.Prelude.{Bool, true, false, List, [], ◌∷◌, ℕ, suc, length}
use Rattle.std.proofs.Math.Option.{Option, none, some}
use Rattle.problem.specs.Tables.{Tables, is_listed}
use Rattle.events.specs.Events.{Event, check}
use Rattle.methods.specs.Choices.{may_stand}
use Rattle.methods.specs.Machine.{Steps}
use Rattle.methods.specs.Moves.{nobody, only, Verdict, pass, fail, Forward, stepping}

-- the checks of a trial, and the boat against which one failed
pub record Looked : Type 0 where
  pub checks : List Event
  pub failing : Option ℕ

-- one boat h more is looked at, before the rest: an unlisted one costs no check; a failing check leaves the trial
abbrev pub look_at : (h : ℕ) → Event → (listed may : Bool) → (rest : Looked) → Looked
look_at h e false may rest = rest
look_at h e true true rest = record { checks = e ∷ rest.checks; failing = rest.failing }
look_at h e true false rest = record { checks = e ∷ []; failing = some h }

-- choice a of boat i against boats h, h + 1, .. which hold the choices xs
unfoldable pub look_back : Tables → (i a h : ℕ) → (xs : List ℕ) → Looked
look_back t i a h [] = record { checks = []; failing = none }
look_back t i a h (x ∷ xs) = look_at h (check h x i a) (is_listed t.pairs h i) (may_stand t h x i a) (look_back t i a (suc h) xs)

abbrev pub blame_failing : Option ℕ → Verdict (Unit {0})
blame_failing none = pass tt
blame_failing (some h) = fail (only h)

-- the forward move that looks back: it remembers nothing, and tries every choice
unfoldable pub looking_back : Tables → Forward (Unit {0})
looking_back t =
    record {
      start = tt;
      live = λ σ p a. true;
      trial = λ σ p a. record { checks = (look_back t (length p) a 0 p).checks; verdict = blame_failing (look_back t (length p) a 0 p).failing };
      blamers = λ σ p. nobody;
      put_back = λ h σ. σ;
    }

unfoldable pub bt : Tables → Steps (Unit {0})
bt t = stepping (looking_back t)

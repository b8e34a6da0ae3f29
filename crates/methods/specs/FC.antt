-- FC, forward checking: a trial at boat i strikes, at each later boat listed with i, the live choices that i's does not allow.
use Rattle.std.specs.Prelude.{Bool, true, false, not, ◌&&◌, ◌||◌, List, [], ◌∷◌, ◌++◌, ℕ, zero, suc, ◌-◌, ltb, eqb, length}
use Rattle.std.proofs.Math.Option.{Option, none, some}
use Rattle.problem.specs.Tables.{Tables, boats, is_listed}
use Rattle.events.specs.Events.{Event, check}
use Rattle.methods.specs.Choices.{choices, may_stand}
use Rattle.methods.specs.Machine.{Steps}
use Rattle.methods.specs.Moves.{Boats, some?, Verdict, pass, fail, Forward, stepping}

-- the trial of boat h struck choice b of boat j
abbrev pub Strikes : Type 0
Strikes = (h j b : ℕ) → Bool

-- live choices start full
abbrev pub no_strikes : Strikes
no_strikes = λ h j b. false

abbrev pub each_live : (live : Bool) → Event → List Event → List Event
each_live true e es = e ∷ es
each_live false e es = es

-- what a sweep over later boats did: its checks, and the boat that it emptied
pub record Swept : Type 0 where
  pub checks : List Event
  pub emptied : Option ℕ

-- one boat j more, before the rest: only a listed one is checked; where it has no choice left, stop after it
abbrev pub sweep_over : (j : ℕ) → List Event → (listed choice_left : Bool) → (rest : Swept) → Swept
sweep_over j es false left rest = rest
sweep_over j es true true rest = record { checks = es ++ rest.checks; emptied = rest.emptied }
sweep_over j es true false rest = record { checks = es; emptied = some j }

module _ (t : Tables) (s : Strikes) where
  -- no boat struck it
  unfoldable pub is_live : (j b : ℕ) → Bool
  is_live j b = not (some? (boats t) (λ h. s h j b))

  -- the placed boats that struck at least one choice of j
  unfoldable pub strikers : (j : ℕ) → Boats
  strikers j = λ h. some? (choices t j) (λ b. s h j b)

  module _ (i a : ℕ) where
    -- a check for each live choice of j, rising: r of them from b on
    unfoldable pub slot_checks : (j b r : ℕ) → List Event
    slot_checks j b zero = []
    slot_checks j b (suc r) = each_live (is_live j b) (check i a j b) (slot_checks j (suc b) r)

    -- some live choice of j is allowed
    unfoldable pub choice_stays : (j : ℕ) → Bool
    choice_stays j = some? (choices t j) (λ b. is_live j b && may_stand t i a j b)

    -- boats j, j + 1, .. (r of them)
    unfoldable pub sweep : (j r : ℕ) → Swept
    sweep j zero = record { checks = []; emptied = none }
    sweep j (suc r) = sweep_over j (slot_checks j 0 (choices t j)) (is_listed t.pairs i j) (choice_stays j) (sweep (suc j) r)

    -- what has been struck once the trial has passed
    unfoldable pub struck : Strikes
    struck h j b = s h j b || (eqb h i && ltb i j && is_listed t.pairs i j && is_live j b && not (may_stand t i a j b))

    -- a boat was emptied: all that this trial struck is put back, and the choice of i has failed
    unfoldable pub end_of_sweep : Option ℕ → Verdict Strikes
    end_of_sweep none = pass struck
    end_of_sweep (some j) = fail (strikers j)

-- what boat h, and those after it, struck is put back
unfoldable pub put_back_from : (h : ℕ) → Strikes → Strikes
put_back_from h s = λ g j b. ltb g h && s g j b

-- the forward move that looks ahead
unfoldable pub looking_ahead : Tables → Forward Strikes
looking_ahead t =
    record {
      start = no_strikes;
      live = λ s p a. is_live t s (length p) a;
      trial = λ s p a. record {
        checks = (sweep t s (length p) a (suc (length p)) (boats t - suc (length p))).checks;
        verdict = end_of_sweep t s (length p) a (sweep t s (length p) a (suc (length p)) (boats t - suc (length p))).emptied;
      };
      blamers = λ s p. strikers t s (length p);
      put_back = put_back_from;
    }

unfoldable pub fc : Tables → Steps Strikes
fc t = stepping (looking_ahead t)

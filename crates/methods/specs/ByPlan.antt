-- Looking ahead by the plan so far alone: forward checking that remembers nothing, and takes the steps of FC.antt. (The inner contracts cite it: the
-- code keeps no strikes. That both make the same events is proofs/AheadSame.antt, and no promise speaks of it.)
use Rattle.std.specs.Prelude.{◌≡◌, Bool, true, false, cond, ◌&&◌, List, [], ◌∷◌, ℕ, zero, suc, ◌-◌, ◌<◌, eqb, length, take}
use Rattle.std.proofs.Math.Option.{Option, none, some}
use Rattle.problem.specs.Tables.{Tables, boats, is_listed}
use Rattle.events.specs.Events.{Event, check}
use Rattle.methods.specs.Choices.{choices, may_stand}
use Rattle.methods.specs.Moves.{Boats, some?, Verdict, pass, fail, Forward}
use Rattle.methods.specs.FC.{Strikes, each_live, Swept, sweep_over}

module _ (t : Tables) (i a : ℕ) where
  -- of boats h, h + 1, .. with the choices xs, the first that does not allow choice a of boat i
  unfoldable pub refuser : ℕ → List ℕ → Option ℕ
  refuser h [] = none
  refuser h (x ∷ xs) = cond (may_stand t h x i a) (refuser (suc h) xs) (some h)

-- nobody refuses
abbrev pub is_none : Option ℕ → Bool
is_none none = true
is_none (some h) = false

-- the first that refuses is g
abbrev pub is_first : ℕ → Option ℕ → Bool
is_first g none = false
is_first g (some h) = eqb h g

module _ (t : Tables) (p : List ℕ) where
  -- choice b of boat j is live: no placed boat refuses it. (The first that refuses it has struck it)
  unfoldable pub is_open : (j b : ℕ) → Bool
  is_open j b = is_none (refuser t j b 0 p)

  -- the placed boats that struck at least one choice of j
  unfoldable pub blamers_of : (j : ℕ) → Boats
  blamers_of j = λ h. some? (choices t j) (λ b. is_first h (refuser t j b 0 p))

  module _ (a : ℕ) where
    -- a check for each live choice of j, rising: r of them from b on
    unfoldable pub open_checks : (j b r : ℕ) → List Event
    open_checks j b zero = []
    open_checks j b (suc r) = each_live (is_open j b) (check (length p) a j b) (open_checks j (suc b) r)

    -- some live choice of j is allowed by choice a of the boat at hand
    unfoldable pub open_stays : (j : ℕ) → Bool
    open_stays j = some? (choices t j) (λ b. is_open j b && may_stand t (length p) a j b)

    -- boats j, j + 1, .. (r of them)
    unfoldable pub open_sweep : (j r : ℕ) → Swept
    open_sweep j zero = record { checks = []; emptied = none }
    open_sweep j (suc r) = sweep_over j (open_checks j 0 (choices t j)) (is_listed t.pairs (length p) j) (open_stays j) (open_sweep (suc j) r)

  abbrev pub end_of_open : Option ℕ → Verdict (Unit {0})
  end_of_open none = pass tt
  end_of_open (some j) = fail (blamers_of j)

-- the forward move that looks ahead and remembers nothing
unfoldable pub ahead_by_plan : Tables → Forward (Unit {0})
ahead_by_plan t =
    record {
      start = tt;
      live = λ σ p a. is_open t p (length p) a;
      trial = λ σ p a. record {
        checks = (open_sweep t p a (suc (length p)) (boats t - suc (length p))).checks;
        verdict = end_of_open t p (open_sweep t p a (suc (length p)) (boats t - suc (length p))).emptied;
      };
      blamers = λ σ p. blamers_of t p (length p);
      put_back = λ h σ. σ;
    }

-- ---- the strikes of FC.antt are those that the plan so far makes: boat g has struck choice b of j where g is the first, of the boats placed before j, that
-- refuses it
abbrev pub Struck : Tables → (plan : List ℕ) → Strikes → Type 0
Struck t p s = (g j b : ℕ) → j < boats t → b < choices t j → s g j b ≡ is_first g (refuser t j b 0 (take j p))

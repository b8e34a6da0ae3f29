-- Which slots boat i tries, in which order. A search goes by choices: choice k of boat i, k = 0, 1, .. below `choices`, is the slot `slot_of`.
-- (Document 01: 'Slots are always taken in rising order'. Request 3 changes `slot_of`.)
use Rattle.std.specs.Prelude.{Bool, List, [], ◌∷◌, map, ℕ, suc}
use Rattle.problem.specs.Tables.{Tables, size, allowed}
use Rattle.events.specs.Events.{Event, trial, check, Ending, solved, no_plan, astray, Search}

unfoldable pub choices : Tables → (i : ℕ) → ℕ
choices t i = size t.sizes i

unfoldable pub slot_of : Tables → (i k : ℕ) → ℕ
slot_of t i k = k

-- boats h and i, h below i, may hold the choices x and y
unfoldable pub may_stand : Tables → (h x i y : ℕ) → Bool
may_stand t h x i y = allowed t h (slot_of t h x) i (slot_of t i y)

-- ---- a search told in slots
unfoldable pub shown_event : Tables → Event → Event
shown_event t (trial i k) = trial i (slot_of t i k)
shown_event t (check h x i y) = check h (slot_of t h x) i (slot_of t i y)

-- the slots of boats i, i + 1, .. from their choices
unfoldable pub shown_plan : Tables → (i : ℕ) → List ℕ → List ℕ
shown_plan t i [] = []
shown_plan t i (k ∷ ks) = slot_of t i k ∷ shown_plan t (suc i) ks

unfoldable pub shown_ending : Tables → Ending → Ending
shown_ending t (solved plan) = solved (shown_plan t 0 plan)
shown_ending t no_plan = no_plan
shown_ending t astray = astray

unfoldable pub shown : Tables → Search → Search
shown t s = record { events = map (shown_event t) s.events; ending = shown_ending t s.ending }

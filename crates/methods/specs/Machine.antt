-- The machine that all methods share: forward to the next boat, on to the next slot, back to a boat.
use Rattle.std.specs.Prelude.{Bool, true, false, List, [], ◌∷◌, ◌++◌, ℕ, zero, suc, ◌+◌, ◌-◌, ◌*◌, ltb, length, get_or, take, drop}
use Rattle.problem.specs.Tables.{Tables, boats}
use Rattle.events.specs.Events.{Event, trial, Ending, solved, no_plan, astray, Search, ◌then◌}
use Rattle.methods.specs.Choices.{choices}

-- ---- a method: what it remembers is of the type S. The plan so far is the list of the placed boats' choices, so the boat at hand is its length
-- the checks made, whether the choice passed them, and what is remembered after
pub record Tried (S : Type 0) : Type 0 where
  pub checks : List Event
  pub passed : Bool
  pub after : S

-- where a boat with no choice left goes: nowhere, so that there is no plan; or back to boat h
pub data Left (S : Type 0) : Type 0 where
  nowhere : Left S
  back : (h : ℕ) → S → Left S

pub record Steps (S : Type 0) : Type 0 where
  pub start : S
  -- before a trial: whether the choice is tried at all. (The five methods make no check there; request 12 does)
  pub ready : S → (plan : List ℕ) → (choice : ℕ) → Tried S
  -- the trial
  pub label : S → (plan : List ℕ) → (choice : ℕ) → Tried S
  -- no choice left
  pub unlabel : S → (plan : List ℕ) → Left S

-- ---- one step: the search ends, or makes events and goes on with a plan so far, the next choice of the boat at hand, and what is remembered
pub data Step (S : Type 0) : Type 0 where
  stop : Ending → Step S
  next : List Event → (plan : List ℕ) → (choice : ℕ) → S → Step S

module _ {S : Type 0} (p : List ℕ) (a : ℕ) where
  -- the choice passed: forward to the next boat. It failed: on to the boat's next choice
  unfoldable pub tried : List Event → S → (passed : Bool) → Step S
  tried es σ true = next es (p ++ (a ∷ [])) 0 σ
  tried es σ false = next es p (suc a) σ

  -- back to boat h, one of those placed: it gives up its choice and goes on with its next
  unfoldable pub back_to : (h : ℕ) → S → (placed : Bool) → Step S
  back_to h σ true = next [] (take h p) (suc (get_or p h 0)) σ
  back_to h σ false = stop astray

  unfoldable pub leave : Left S → Step S
  leave nowhere = stop no_plan
  leave (back h σ) = back_to h σ (ltb h (length p))

module _ (t : Tables) {S : Type 0} (M : Steps S) (p : List ℕ) (a : ℕ) where
  -- a choice that is ready is tried; any other is passed over
  unfoldable pub at_choice : (r : Tried S) → (ready : Bool) → Step S
  at_choice r true =
      tried p a (r.checks ++ trial (length p) a ∷ (M.label r.after p a).checks) (M.label r.after p a).after (M.label r.after p a).passed
  at_choice r false = next r.checks p (suc a) r.after

  -- a boat with a choice left goes on with it; one with none is left
  unfoldable pub at_boat : S → (choice_left : Bool) → Step S
  at_boat σ true = at_choice (M.ready σ p a) (M.ready σ p a).passed
  at_boat σ false = leave p a (M.unlabel σ p)

  -- past the last boat the problem is solved
  unfoldable pub at_plan : S → (boat_left : Bool) → Step S
  at_plan σ true = at_boat σ (ltb a (choices t (length p)))
  at_plan σ false = stop (solved p)

  unfoldable pub step : S → Step S
  step σ = at_plan σ (ltb (length p) (boats t))

-- ---- a search from some place on: all its steps. `fuel` bounds their number
unfoldable pub onward : {S : Type 0} → (rest : List ℕ → ℕ → S → Search) → Step S → Search
onward rest (stop r) = record { events = []; ending = r }
onward rest (next es p a σ) = es then rest p a σ

unfoldable pub bounded_search : (t : Tables) {S : Type 0} (M : Steps S) (fuel : ℕ) → List ℕ → ℕ → S → Search
bounded_search t M zero p a σ = record { events = []; ending = astray }
bounded_search t M (suc fuel) p a σ = onward (λ q b τ. bounded_search t M fuel q b τ) (step t M p a σ)

-- the choices of so many boats from boat i on
unfoldable pub counts : Tables → (i boats : ℕ) → List ℕ
counts t i zero = []
counts t i (suc m) = choices t i ∷ counts t (suc i) m

-- how many steps there are at most: over all choices of boats with so many choices each
unfoldable pub span : List ℕ → ℕ
span [] = 1
span (s ∷ ss) = suc (s * suc (span ss))

-- from a plan so far on, with choice a of the boat at hand next
unfoldable pub steps_left : List ℕ → (plan : List ℕ) → (choice : ℕ) → ℕ
steps_left [] p a = 1
steps_left (s ∷ ss) [] a = suc ((s - a) * suc (span ss))
steps_left (s ∷ ss) (x ∷ p) a = suc ((s - suc x) * suc (span ss)) + steps_left ss p a

unfoldable pub search_from : (t : Tables) {S : Type 0} (M : Steps S) → (plan : List ℕ) → (choice : ℕ) → S → Search
search_from t M p a σ = bounded_search t M (steps_left (counts t 0 (boats t)) p a) p a σ

-- from the beginning
unfoldable pub search : (t : Tables) {S : Type 0} (M : Steps S) → Search
search t M = search_from t M [] 0 M.start

-- ---- from a place inside a trial (No. 10): plan, choice and memory are those before the step, and so many of its events are made and come no more
unfoldable pub unmade : {S : Type 0} → (made : ℕ) → Step S → Step S
unmade made (stop r) = stop r
unmade made (next es p a σ) = next (drop made es) p a σ

unfoldable pub search_inside : (t : Tables) {S : Type 0} (M : Steps S) → (made : ℕ) → (plan : List ℕ) → (choice : ℕ) → S → Search
search_inside t M made p a σ = onward (search_from t M) (unmade made (step t M p a σ))

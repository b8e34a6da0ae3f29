-- What a search does that is counted: trials and checks. (Document 01, 'Counting'.)
use Rattle.std.specs.Prelude.{List, [], ◌∷◌, ◌++◌, ℕ, length}

-- a trial of a slot of a boat; a check of a slot of a lower boat against a slot of a higher boat, the two listed as a pair
pub data Event : Type 0 where
  trial : (boat slot : ℕ) → Event
  check : (lower slot_of_lower higher slot_of_higher : ℕ) → Event

-- how a search ends that has no allowances: with a plan, without one, or, as no search that begins at the beginning does, astray
pub data Ending : Type 0 where
  solved : (plan : List ℕ) → Ending
  no_plan : Ending
  astray : Ending

-- a whole search without allowances: all that it does, in order, and how it ends
pub record Search : Type 0 where
  pub events : List Event
  pub ending : Ending

-- the trials, and the checks, of a list of events
unfoldable pub trials_of : List Event → List Event
trials_of [] = []
trials_of (trial i a ∷ es) = trial i a ∷ trials_of es
trials_of (check h x i a ∷ es) = trials_of es

unfoldable pub checks_of : List Event → List Event
checks_of [] = []
checks_of (trial i a ∷ es) = checks_of es
checks_of (check h x i a ∷ es) = check h x i a ∷ checks_of es

-- how many of each
abbrev pub trials : List Event → ℕ
trials es = length (trials_of es)

abbrev pub checks : List Event → ℕ
checks es = length (checks_of es)

-- events that come before a search
abbrev pub ◌then◌ : List Event → Search → Search
◌then◌ es s = record { events = es ++ s.events; ending = s.ending }

infixr 40 ◌then◌

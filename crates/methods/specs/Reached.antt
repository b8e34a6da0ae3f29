-- The places that a search comes to, and a place from which the rest of it is to come. (They are words of the theorems on jumps and on stopping, and of the walk's contract.)
use Rattle.std.specs.Prelude.{◌≡◌, List, [], ◌++◌, ℕ, ◌≤◌, length, drop}
use Rattle.problem.specs.Tables.{Tables}
use Rattle.events.specs.Events.{Event, Search}
use Rattle.methods.specs.Machine.{Steps, Step, stop, next, step, search_inside}

-- the events of a step; one that stops has none
abbrev pub events_of : {S : Type 0} → Step S → List Event
events_of (stop r) = []
events_of (next es p a σ) = es

module _ (t : Tables) {S : Type 0} (M : Steps S) where
  -- the beginning, and what a step makes of such a place
  pub data Reached : List ℕ → ℕ → S → Type 0 where
    start : Reached [] 0 M.start
    later : {p : List ℕ} {a : ℕ} {σ : S} {es : List Event} {p' : List ℕ} {a' : ℕ} {σ' : S} → Reached p a σ → step t M p a σ ≡ next es p' a' σ' → Reached p' a' σ'

  -- from a place, whole steps with these events in all lead to another
  pub data StepsTo (p : List ℕ) (a : ℕ) (σ : S) : List Event → (plan : List ℕ) → (choice : ℕ) → (memory : S) → Type 0 where
    here : StepsTo p a σ [] p a σ
    onward : {es : List Event} {q : List ℕ} {b : ℕ} {τ : S} {fs : List Event} {r : List ℕ} {c : ℕ} {υ : S} →
        StepsTo p a σ es q b τ → step t M q b τ ≡ next fs r c υ → StepsTo p a σ (es ++ fs) r c υ

  -- a place that the search from the beginning comes to, with so many events of its step made, and from which s is to come
  pub record Place (s : Search) : Type 0 where
    pub plan : List ℕ
    pub choice : ℕ
    pub memory : S
    pub made : ℕ
    pub reached : Reached plan choice memory
    pub of_its_step : made ≤ length (events_of (step t M plan choice memory))
    pub comes : search_inside t M made plan choice memory ≡ s

-- a search without its first k events
abbrev pub after : (k : ℕ) → Search → Search
after k s = record { events = drop k s.events; ending = s.ending }

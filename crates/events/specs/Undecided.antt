-- What it is for a search to be undecided: an event comes when the events of its kind are as many as allowed. (Document 01, 'Counting'.)
use Rattle.std.specs.Prelude.{◌≡◌, List, ◌∷◌, ◌++◌, ℕ, ◌≤◌}
use Rattle.events.specs.Events.{Event, trial, check, Search, trials, checks}

-- a search of which ca checks and ta trials are allowed
module _ (ca ta : ℕ) (s : Search) where
  -- before a check the checks made equal their allowance, and the trials made have not passed theirs; c and t are the counts there
  pub record OutOfChecks (c t : ℕ) : Type 0 where
    pub pre : List Event
    pub post : List Event
    pub h : ℕ
    pub x : ℕ
    pub i : ℕ
    pub a : ℕ
    pub split : s.events ≡ pre ++ check h x i a ∷ post
    pub full : checks pre ≡ ca
    pub within : trials pre ≤ ta
    pub made : c ≡ checks pre
    pub tried : t ≡ trials pre

  -- before a trial the trials made equal their allowance, and the checks made have not passed theirs; c and t are the counts there
  pub record OutOfTrials (c t : ℕ) : Type 0 where
    pub pre : List Event
    pub post : List Event
    pub i : ℕ
    pub a : ℕ
    pub split : s.events ≡ pre ++ trial i a ∷ post
    pub full : trials pre ≡ ta
    pub within : checks pre ≤ ca
    pub made : c ≡ checks pre
    pub tried : t ≡ trials pre

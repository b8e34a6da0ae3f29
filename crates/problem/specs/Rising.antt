-- The listed pairs rise strictly: by lower boat, then by higher.
use Rattle.std.specs.Prelude.{◌≡◌, ◌⊎◌, List, ℕ, ◌<◌}
use Rattle.problem.specs.Tables.{listed, lower, higher}

-- pair j comes before pair k
abbrev pub Precedes : List ℕ → (j k : ℕ) → Type 0
Precedes pairs j k = (lower pairs j < lower pairs k) ⊎ ((lower pairs j ≡ lower pairs k) × (higher pairs j < higher pairs k))

abbrev pub Rising : List ℕ → Type 0
Rising pairs = (j k : ℕ) → j < k → k < listed pairs → Precedes pairs j k

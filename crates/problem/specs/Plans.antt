-- Plans: lawful, first, none. (Document 01, 'The harbour's problem'.) Nothing here runs a search.
use Rattle.std.specs.Prelude.{◌≡◌, ◌⊎◌, Bool, List, ℕ, ◌<◌, T, length, get_or}
use Rattle.problem.specs.Tables.{Tables, boats, size, listed, lower, higher, allows}

-- the slot that a plan gives boat i
abbrev pub slot : List ℕ → ℕ → ℕ
slot plan i = get_or plan i 0

-- the slots that the plan gives the boats of pair k are allowed beside each other
abbrev pub keeps : Tables → List ℕ → ℕ → Bool
keeps t plan k = allows t k (slot plan (lower t.pairs k)) (slot plan (higher t.pairs k))

-- a plan gives each boat one of its slots
pub record Plan (t : Tables) (plan : List ℕ) : Type 0 where
  pub complete : length plan ≡ boats t
  pub within : (i : ℕ) → i < boats t → slot plan i < size t.sizes i

-- it is lawful when every listed pair allows it
pub record Lawful (t : Tables) (plan : List ℕ) : Type 0 where
  pub is_plan : Plan t plan
  pub kept : (k : ℕ) → k < listed t.pairs → T (keeps t plan k)

-- of two plans the first has the lower slot at the lowest boat where they differ
pub record Before (p q : List ℕ) : Type 0 where
  pub boat : ℕ
  pub named : boat < length p
  pub same : (j : ℕ) → j < boat → slot p j ≡ slot q j
  pub less : slot p boat < slot q boat

-- the first plan: lawful, and every other lawful plan comes after it
pub record First (t : Tables) (plan : List ℕ) : Type 0 where
  pub lawful : Lawful t plan
  pub first : (q : List ℕ) → Lawful t q → (plan ≡ q) ⊎ Before plan q

-- no plan is lawful
abbrev pub NoPlan : Tables → Type 0
NoPlan t = (plan : List ℕ) → Lawful t plan → ⊥

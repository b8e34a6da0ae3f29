-- An ordered list of tests: the first that applies, where it does so first, says the refusal.
use Rattle.std.specs.Prelude.{Bool, true, false, List, [], ◌∷◌, ℕ, ltb}
use Rattle.problem.specs.Lowest.{lowest}
use Rattle.problem.specs.Replies.{Told, refused}

-- what may be at fault, with the number and the place of its refusal
pub record Fault : Type 0 where
  pub cause : Bool
  pub number : ℕ
  pub place : ℕ

abbrev pub fault : (number place : ℕ) → (cause : Bool) → Fault
fault number place cause = record { cause = cause; number = number; place = place }

abbrev pub says : Fault → Told
says f = refused f.number f.place

-- of several faults, in their order, the first whose cause is there; where there is none, one without a cause
abbrev pub first_fault : List Fault → Fault
first_fault [] = fault 0 0 false
first_fault (f ∷ fs) = elim f.cause [ true ↦ f | false ↦ first_fault fs ]

-- a test looks for its fault at 0, 1, .. count - 1, the lowest first
pub record Test : Type 0 where
  pub count : ℕ
  pub at : ℕ → Fault

-- a test of the whole input: the refusal's place is 0
abbrev pub once : (number : ℕ) → Bool → Test
once number cause = record { count = 1; at = λ k. fault number 0 cause }

-- a test of each of so many boats or words: the refusal's place is the one at fault
abbrev pub each : (number count : ℕ) → (ℕ → Bool) → Test
each number count cause = record { count = count; at = λ k. fault number k (cause k) }

-- a test of each of so many pairs: the fault there says number and place
abbrev pub each_way : (count : ℕ) → (ℕ → Fault) → Test
each_way count way = record { count = count; at = way }

-- the lowest at which its cause is there; `count` where it is nowhere
abbrev pub found : Test → ℕ
found test = lowest test.count (λ k. (test.at k).cause)

-- what the tests say in turn; `otherwise` where none applies
unfoldable pub first_of : List Test → (otherwise : Told) → Told
first_of [] otherwise = otherwise
first_of (test ∷ tests) otherwise =
    elim (ltb (found test) test.count) [ true ↦ says (test.at (found test)) | false ↦ first_of tests otherwise ]

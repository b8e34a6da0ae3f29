-- What it is for the tests of a list to apply, or not, without computing where.
use Rattle.std.specs.Prelude.{◌≡◌, true, false, List, [], ◌∷◌, ℕ, ◌<◌}
use Rattle.problem.specs.Replies.{Told}
use Rattle.tables.specs.Tests.{Test, says}

-- a test fails at all that it looks at
abbrev pub Fails : Test → Type 0
Fails test = (k : ℕ) → k < test.count → (test.at k).cause ≡ false

-- no test applies: each fails at all that it looks at
pub data NoneApplies : List Test → Type 0 where
  none : NoneApplies []
  nor : {test : Test} {tests : List Test} → Fails test → NoneApplies tests → NoneApplies (test ∷ tests)

-- the first test that applies, at the lowest where it does, says this
pub data Gives : List Test → Told → Type 0 where
  here : {test : Test} {tests : List Test} (k : ℕ) → k < test.count → (test.at k).cause ≡ true → ((j : ℕ) → j < k → (test.at j).cause ≡ false)
      → Gives (test ∷ tests) (says (test.at k))
  later : {test : Test} {tests : List Test} {told : Told} → Fails test → Gives tests told → Gives (test ∷ tests) told

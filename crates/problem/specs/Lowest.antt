-- The lowest place where a test passes, and a sum over places.
use Rattle.std.specs.Prelude.{◌≡◌, Bool, true, false, ℕ, zero, suc, ◌+◌, ◌<◌, Option, Some, None}

-- of the m places from k on, the lowest where the test passes; the place after them where it passes at none
unfoldable pub lowest_from : (k m : ℕ) → (ℕ → Bool) → ℕ
lowest_from k zero test = k
lowest_from k (suc m) test = elim (test k) [ true ↦ k | false ↦ lowest_from (suc k) m test ]

-- an answer says whether there is one, and which
abbrev pub IsLowestFrom : Option ℕ → (k m : ℕ) → (ℕ → Bool) → Type 0
IsLowestFrom (Some w) k m test = (w < k + m) × (w ≡ lowest_from k m test)
IsLowestFrom None k m test = lowest_from k m test ≡ k + m

-- the lowest place below n where the test passes; n where it passes at none
unfoldable pub lowest : ℕ → (ℕ → Bool) → ℕ
lowest n test = lowest_from 0 n test

-- f 0 + f 1 + .. + f (n - 1)
unfoldable pub sum : ℕ → (ℕ → ℕ) → ℕ
sum zero f = 0
sum (suc n) f = sum n f + f n

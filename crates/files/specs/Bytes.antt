-- Numbers as bytes, low byte first, and bytes as numbers.
use Rattle.std.specs.Prelude.{List, [], ◌∷◌, ◌++◌, ℕ, zero, suc, ◌+◌, ◌*◌, ◌/◌, ◌%◌, ◌<◌, length, get_or, take, drop}

-- a number in k bytes, low byte first
unfoldable pub bytes_of : (k : ℕ) → ℕ → List ℕ
bytes_of zero w = []
bytes_of (suc k) w = w % 256 ∷ bytes_of k (w / 256)

-- the number that bytes say, low byte first
unfoldable pub number : List ℕ → ℕ
number [] = 0
number (b ∷ bytes) = b + 256 * number bytes

-- the words that m times eight bytes say
unfoldable pub words_of : (m : ℕ) → List ℕ → List ℕ
words_of zero bytes = []
words_of (suc m) bytes = number (take 8 bytes) ∷ words_of m (drop 8 bytes)

-- f 0, then f 1, .. then f (n - 1)
unfoldable pub joined : ℕ → (ℕ → List ℕ) → List ℕ
joined zero f = []
joined (suc n) f = joined n f ++ f n

-- each entry is below a bound: bytes are below 256, words below 2 ^ 64
abbrev pub Below : (bound : ℕ) → List ℕ → Type 0
Below bound entries = (i : ℕ) → i < length entries → get_or entries i 0 < bound

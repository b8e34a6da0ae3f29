-- The harbour's tables: three lists, and what they say. (Document 01, 'The harbour's problem'.)
use Rattle.std.specs.Prelude.{◌≡◌, Bool, not, ◌&&◌, ◌||◌, List, ℕ, ◌+◌, ◌*◌, ◌/◌, ◌%◌, ◌^◌, ◌<◌, ltb, eqb, length, get_or, Option, Some, None}
use Rattle.problem.specs.Lowest.{lowest, sum}

-- a byte for each boat; two bytes for each listed pair; for each listed pair in turn, a word for each slot of its lower boat
pub record Tables : Type 0 where
  pub sizes : List ℕ
  pub pairs : List ℕ
  pub rows : List ℕ

abbrev pub tables : (sizes pairs rows : List ℕ) → Tables
tables sizes pairs rows = record { sizes = sizes; pairs = pairs; rows = rows }

-- ---- boats 0 to n - 1, and boat i's slots 0 to size - 1
abbrev pub boats : Tables → ℕ
boats t = length t.sizes

abbrev pub size : List ℕ → ℕ → ℕ
size sizes i = get_or sizes i 0

-- ---- the listed pairs: pair k names a lower and a higher boat
abbrev pub listed : List ℕ → ℕ
listed pairs = length pairs / 2

abbrev pub lower : List ℕ → ℕ → ℕ
lower pairs k = get_or pairs (2 * k) 0

abbrev pub higher : List ℕ → ℕ → ℕ
higher pairs k = get_or pairs (2 * k + 1) 0

-- pair k is the pair of boats h and i
abbrev pub is_pair : List ℕ → (h i k : ℕ) → Bool
is_pair pairs h i k = eqb (lower pairs k) h && eqb (higher pairs k) i

-- the place of the pair of boats h and i among the listed ones; `listed` where it is not listed
unfoldable pub place : List ℕ → (h i : ℕ) → ℕ
place pairs h i = lowest (listed pairs) (is_pair pairs h i)

-- an answer says whether it is listed, and where
abbrev pub IsPlace : Option ℕ → List ℕ → (h i : ℕ) → Type 0
IsPlace (Some k) pairs h i = (k < listed pairs) × (k ≡ place pairs h i)
IsPlace None pairs h i = place pairs h i ≡ listed pairs

unfoldable pub is_listed : List ℕ → (h i : ℕ) → Bool
is_listed pairs h i = ltb (place pairs h i) (listed pairs)

-- ---- the rows: those of pair k begin after those of the pairs before it
unfoldable pub start : List ℕ → List ℕ → ℕ → ℕ
start sizes pairs k = sum k (λ m. size sizes (lower pairs m))

-- the row of slot a of pair k's lower boat
abbrev pub row : Tables → (k a : ℕ) → ℕ
row t k a = get_or t.rows (start t.sizes t.pairs k + a) 0

-- bit b of a word is set
abbrev pub bit : ℕ → ℕ → Bool
bit w b = eqb (w / 2 ^ b % 2) 1

-- pair k allows slot a of its lower boat beside slot b of its higher boat
abbrev pub allows : Tables → (k a b : ℕ) → Bool
allows t k a b = bit (row t k a) b

-- boats h and i, h below i, may hold the slots a and b: a pair that is not listed allows everything
unfoldable pub allowed : Tables → (h a i b : ℕ) → Bool
allowed t h a i b = not (is_listed t.pairs h i) || allows t (place t.pairs h i) a b

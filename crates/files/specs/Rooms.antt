-- The memory that is lent for the tables of a file: when it is too small, and what it holds after the tables are written there. (Document 02, No. 2.)
use Rattle.std.specs.Prelude.{Bool, ◌||◌, List, ◌++◌, ℕ, ltb, length, drop}
use Rattle.problem.specs.Tables.{Tables}

-- the lent parts: bytes for the sizes, bytes for the pairs, words for the rows
pub record Rooms : Type 0 where
  pub sizes : List ℕ
  pub pairs : List ℕ
  pub rows : List ℕ

abbrev pub rooms : (sizes pairs rows : List ℕ) → Rooms
rooms sizes pairs rows = record { sizes = sizes; pairs = pairs; rows = rows }

-- a part is shorter than what would be written there
abbrev pub too_short : (room content : List ℕ) → Bool
too_short room content = ltb (length room) (length content)

-- 26: one of the parts is, each judged alone
abbrev pub too_small : Rooms → Tables → Bool
too_small m t = too_short m.sizes t.sizes || (too_short m.pairs t.pairs || too_short m.rows t.rows)

-- what is written stands first, and the rest of the part is as it was
abbrev pub covering : (content room : List ℕ) → List ℕ
covering content room = content ++ drop (length content) room

abbrev pub holding : Tables → Rooms → Rooms
holding t m = rooms (covering t.sizes m.sizes) (covering t.pairs m.pairs) (covering t.rows m.rows)

-- What bytes mean to the reader: the first fault, or the tables. (Document 02, No. 2.)
use Rattle.std.specs.Prelude.{Bool, true, false, not, ◌&&◌, List, [], ◌∷◌, ◌++◌, ℕ, zero, suc, ◌+◌, ◌-◌, ◌*◌, ltb, leb, eqb, length, get_or, take, drop}
use Rattle.problem.specs.Tables.{Tables, tables, boats, size, listed}
use Rattle.files.specs.Bytes.{number, words_of}
use Rattle.files.specs.File.{SZ, PR, ED}

-- what comes of reading: a fault, with its number, its place and the place after what is at fault; or the tables
pub data Reading : Type 0 where
  fault : (number place after : ℕ) → Reading
  read : Tables → Reading

-- the first of the records that may come next
pub data Stage : Type 0 where
  sizes_due : Stage
  pairs_due : Stage

-- what is left to read of a record
pub data Rest : Type 0 where
  -- so many bytes, and what is left after them
  next : (k : ℕ) → (List ℕ → Rest) → Rest
  -- nothing: the last so many bytes are at fault
  refuse : (number width : ℕ) → Rest
  -- nothing: a mark comes, and this was read so far
  over : Stage → Tables → Rest
  -- nothing: no byte comes, and this was read
  end : Tables → Rest

-- where a test applies the last so many bytes are at fault
abbrev pub refuse_if : Bool → (number width : ℕ) → Rest → Rest
refuse_if true number width rest = refuse number width
refuse_if false number width rest = rest

-- the same bytes
unfoldable pub same : List ℕ → List ℕ → Bool
same [] [] = true
same [] (y ∷ ys) = false
same (x ∷ xs) [] = false
same (x ∷ xs) (y ∷ ys) = eqb x y && same xs ys

-- the sizes were read, and no pair yet; nothing at all
abbrev pub sized : List ℕ → Tables
sized sizes = tables sizes [] []

abbrev pub nothing : Tables
nothing = sized []

-- ---- the records, after their marks
-- "SZ": one byte n, n sizes
unfoldable pub sizes_rest : Tables → Rest
sizes_rest t = next 1 λ n. next (number n) λ sizes. over pairs_due (sized sizes)

-- "PR": two boats, then one word of eight bytes for each slot of the lower boat. 23: the lower boat isn't in SZ
unfoldable pub words_rest : Tables → (lower : List ℕ) → (slots : ℕ) → Rest
words_rest t lower slots =
    next 1 λ higher. next (8 * slots) λ words.
    over pairs_due (tables t.sizes (t.pairs ++ (lower ++ higher)) (t.rows ++ words_of slots words))

unfoldable pub pair_rest : Tables → Rest
pair_rest t = next 1 λ lower. refuse_if (leb (boats t) (number lower)) 23 1 (words_rest t lower (size t.sizes (number lower)))

-- "ED": two bytes, the number of PR records. 24: a wrong count
unfoldable pub end_rest : Tables → Rest
end_rest t = next 2 λ count. refuse_if (not (eqb (number count) (listed t.pairs))) 24 2 (end t)

-- ---- which record comes is told by its mark. 21: an unknown or misplaced mark
pub record Kind : Type 0 where
  pub mark : List ℕ
  pub rest : Tables → Rest

abbrev pub due : Stage → List Kind
due sizes_due = record { mark = SZ; rest = sizes_rest } ∷ []
due pairs_due = record { mark = PR; rest = pair_rest } ∷ record { mark = ED; rest = end_rest } ∷ []

unfoldable pub after_mark : (mark : List ℕ) → List Kind → Tables → Rest
after_mark mark [] t = refuse 21 2
after_mark mark (kind ∷ kinds) t = elim (same mark kind.mark) [ true ↦ kind.rest t | false ↦ after_mark mark kinds t ]

abbrev pub marked : Stage → Tables → Rest
marked stage t = next 2 λ mark. after_mark mark (due stage) t

-- ---- reading, from the byte `at` on. 22: the file ends inside a mark or record or before ED. 25: bytes after ED
abbrev pub cut : (at : ℕ) → List ℕ → Reading
cut at bytes = fault 22 (at + length bytes) (at + length bytes)

unfoldable pub read_rest : (onward : (at : ℕ) → Stage → Tables → List ℕ → Reading) → (at : ℕ) → Rest → List ℕ → Reading
read_rest onward at (next k rest) bytes =
    elim (ltb (length bytes) k) [
      | true ↦ cut at bytes
      | false ↦ read_rest onward (at + k) (rest (take k bytes)) (drop k bytes)
    ]
read_rest onward at (refuse number width) bytes = fault number (at - width) at
read_rest onward at (over stage t) bytes = onward at stage t bytes
read_rest onward at (end t) [] = read t
read_rest onward at (end t) (b ∷ bytes) = fault 25 at (suc at)

-- at most so many records; where none may come no byte is left
unfoldable pub read_records : (most at : ℕ) → Stage → Tables → List ℕ → Reading
read_records zero at stage t bytes = cut at bytes
read_records (suc most) at stage t bytes = read_rest (read_records most) at (marked stage t) bytes

-- a record has two bytes or more, so that bytes have no more records than their length
unfoldable pub read_from : (at : ℕ) → Stage → Tables → List ℕ → Reading
read_from at stage t bytes = read_records (length bytes) at stage t bytes

unfoldable pub reading : (file : List ℕ) → Reading
reading file = read_from 0 sizes_due nothing file

-- how many bytes are at fault: a mark, none where the file ends, a boat, a count, one byte after ED
abbrev pub width_of : (number : ℕ) → ℕ
width_of number = get_or (2 ∷ 0 ∷ 1 ∷ 2 ∷ 1 ∷ []) (number - 21) 0

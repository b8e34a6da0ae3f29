-- The file of tables, record by record. (Document 02, No. 2.)
use Rattle.std.specs.Prelude.{List, [], ◌∷◌, ◌++◌, ℕ}
use Rattle.problem.specs.Tables.{Tables, boats, size, listed, lower, higher, row}
use Rattle.files.specs.Bytes.{bytes_of, joined}

-- ---- the two-byte marks: "SZ", "PR", "ED"
abbrev pub SZ : List ℕ
SZ = 0x53 ∷ 0x5A ∷ []

abbrev pub PR : List ℕ
PR = 0x50 ∷ 0x52 ∷ []

abbrev pub ED : List ℕ
ED = 0x45 ∷ 0x44 ∷ []

-- ---- the records
-- "SZ", one byte n, n sizes
unfoldable pub sizes_record : Tables → List ℕ
sizes_record t = SZ ++ (boats t ∷ t.sizes)

-- "PR", two boats, then one word of eight bytes, low byte first, for each slot of the lower boat
unfoldable pub pair_record : Tables → (k : ℕ) → List ℕ
pair_record t k =
    PR ++ (lower t.pairs k ∷ higher t.pairs k ∷ joined (size t.sizes (lower t.pairs k)) (λ a. bytes_of 8 (row t k a)))

-- "ED", two bytes, low first, the number of PR records
unfoldable pub end_record : Tables → List ℕ
end_record t = ED ++ bytes_of 2 (listed t.pairs)

-- one SZ, the PRs, one ED
unfoldable pub file_of : Tables → List ℕ
file_of t = sizes_record t ++ (joined (listed t.pairs) (pair_record t) ++ end_record t)

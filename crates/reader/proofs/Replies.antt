-- Two replies of the reader that say the same on paper are the same.
use mathlib.Core.Path.{◌≡◌, ap}
use Rattle.tables.proofs.Replies.{examined_one}
use Rattle.files.specs.Rooms.{Rooms}
use Rattle.reader.specs.Replies.{read_as}
use Rattle.reader.specs.declared.FileRead.{FileRead}

pub read_one : (x y : FileRead) (m : Rooms) → read_as x m ≡ read_as y m → x ≡ y
read_one x y m e =
    let found : x.found ≡ y.found = examined_one x.found y.found (ap (λ r. r.answer) e) in
    let boats : x.boats ≡ y.boats = ap (λ r. r.boats) e in
    let pair_bytes : x.pair_bytes ≡ y.pair_bytes = ap (λ r. r.pair_bytes) e in
    let row_words : x.row_words ≡ y.row_words = ap (λ r. r.row_words) e in
    λ i. record { found = found i; boats = boats i; pair_bytes = pair_bytes i; row_words = row_words i }

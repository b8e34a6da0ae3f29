-- 26 where the memory is shorter than the file, and else the parts one after another.
use mathlib.Core.Path.{ap, ◌∙◌}
use mathlib.Core.List.{[], ◌∷◌}
use native.Mathlib.Omega.{arith}
use lib.ListN.{length, get_or}
use Rattle.files.specs.Bytes.{bytes_of}
use Rattle.files.proofs.Lengths.{file_long}
use Rattle.writer.proofs.Answers.{room_refused, file_answered}
use Rattle.writer.proofs.Contents.{low_first}
use Rattle.writer.proofs.write_fine.Goals as goal

pub returns-then-file-last : goal.returns-then-file-last
returns-then-file-last c =
    let t = c.args.tables.now in
    let sane = c.pairs-pairs.ensures.sane in
    room_refused t sane c.args.file.now (omega (arith, file_long t sane, ap length c.row_words.ensures))

pub returns : goal.returns
returns c =
    let t = c.args.tables.now in
    let sane = c.pairs-pairs.ensures.sane in
    let n = c.pairs-pairs.result in
    let rows = ap length c.row_words.ensures in
    file_answered t sane c.args.file.now _ _ _ _ _ _ _ _ _ (c.copy_from_slice.ensures.after ∙ ap (λ n. 0x53 ∷ 0x5A ∷ n ∷ []) c.boats.ensures.value)
    (c.copy.ensures ∙ c.size_bytes.ensures) c.put_pairs.ensures
    (c.copy_from_slice-2.ensures.after
    ∙ ap (λ bytes. 0x45 ∷ 0x44 ∷ get_or bytes 0 0 ∷ get_or bytes 1 0 ∷ []) c.to_le_bytes.ensures
    ∙ ap (λ bytes. 0x45 ∷ 0x44 ∷ bytes) (low_first 1 n ∙ ap (bytes_of 2) c.pairs-pairs.ensures.value))
    (omega arith) (omega (arith, rows)) (omega (arith, rows)) (omega arith) (omega (arith, rows)) (omega arith)

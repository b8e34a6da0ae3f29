-- k words are there.
use mathlib.Core.Path.{◌≡◌, ap, ◌∙◌}
use native.Mathlib.Omega.{arith}
use lib.ListN.{length}
use Rattle.files.specs.Bytes.{joined}
use Rattle.writer.proofs.Puts.{puts_none, puts_all, row_bytes, rows_long, words_more}
use Rattle.writer.proofs.put_words.Goals as goal

pub loop-k-init : goal.loop-k-init
unfolding joined
loop-k-init c = puts_none _

pub loop-k-preserved : goal.loop-k-preserved
loop-k-preserved c =
    let a = c.args in
    let l = c.loop-k in
    words_more a.rows.now a.file.now l.file l.k _ _ l.invariant c.requires (omega arith) (omega arith) (c.copy_from_slice.ensures.after ∙ c.to_le_bytes.ensures)

pub returns : goal.returns
returns c =
    let all : c.loop-k.k ≡ length c.args.rows.now = omega arith in
    puts_all c.loop-k.invariant (omega (arith, rows_long c.args.rows.now c.loop-k.k)) ∙ ap (λ n. joined n (row_bytes c.args.rows.now)) all

-- The first k words are read, and the rows after them are as they were.
use mathlib.Core.Path.{◌≡◌, sym, ap, ◌∙◌}
use mathlib.Core.List.{[]}
use mir.Syntax.{w64}
use Prim.Native.Nat.{◌/◌}
use native.Mathlib.Omega.{arith}
use lib.ListN.{length, get_or}
use Rattle.std.specs.Int.{from_le_bytes}
use Rattle.std.specs.Simd.{first_chunks}
use Rattle.files.specs.Bytes.{words_of}
use Rattle.files.proofs.Bytes.{words_length}
use Rattle.loading.proofs.Filling.{word_read, entries_begin, entries_more, entries_done}
use Rattle.loading.proofs.fill_rows.Goals as goal

pub loop-k-init : goal.loop-k-init
loop-k-init c = entries_begin _ _

pub loop-k-preserved : goal.loop-k-preserved
loop-k-preserved c =
    let a = c.args in
    let l = c.loop-k in
    let m : length a.words.now / 8 ≡ length a.rows.now = omega arith in
    let n : length c.as_chunks.result.0.now ≡ length a.rows.now = c.as_chunks.ensures.front_len ∙ m in
    entries_more _ _ l.k l.rows _ l.invariant (omega (arith, words_length, n)) (omega (arith, n))
    (c.from_le_bytes.ensures
    ∙ ap (λ chunks. from_le_bytes w64 (get_or chunks l.k [])) (c.as_chunks.ensures.front ∙ ap (λ m. first_chunks 8 m a.words.now) m)
    ∙ word_read (length a.rows.now) l.k a.words.now c.requires (omega (arith, n))
    ∙ ap (λ m. get_or (words_of m a.words.now) l.k 0) (sym n))

pub returns : goal.returns
returns c =
    let a = c.args in
    let m : length a.words.now / 8 ≡ length a.rows.now = omega arith in
    let n : length c.as_chunks.result.0.now ≡ length a.rows.now = c.as_chunks.ensures.front_len ∙ m in
    entries_done _ _ _ _ c.loop-k.invariant (omega (arith, words_length, n)) (omega (arith, n)) ∙ ap (λ n. words_of n a.words.now) n

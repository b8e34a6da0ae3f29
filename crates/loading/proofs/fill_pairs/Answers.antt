-- At every mark the memory holds what was read so far.
use mathlib.Core.Path.{◌≡◌, sym, ap, ap₂, ◌∙◌}
use Prim.Native.Nat.{◌+◌, ◌-◌, ◌*◌}
use native.Mathlib.Omega.{arith}
use lib.ListN.{length, take, drop, length-drop}
use lib.Seq.{length-take-le}
use Rattle.files.specs.Bytes.{words_of}
use Rattle.loading.proofs.Second.{second_begins, mark_there, second_ends, lower_there, boat_there, words_there, room, second_steps}
use Rattle.loading.proofs.fill_pairs.Goals as goal

pub loop-lower-init : goal.loop-lower-init
loop-lower-init c = second_begins _ _ _ _ c.requires.front

pub is_mark-requires : goal.is_mark-requires
is_mark-requires c = mark_there c.requires c.loop-lower.invariant

pub returns : goal.returns
returns c = second_ends c.requires c.loop-lower.invariant (sym c.is_mark.ensures ∙ c.loop-lower-test.false)

pub bounds-file-at : goal.bounds-file-at
bounds-file-at c = omega (arith, lower_there c.requires c.loop-lower.invariant (sym c.is_mark.ensures ∙ c.loop-lower-test.true))

pub bounds-file-lower : goal.bounds-file-lower
bounds-file-lower c =
    omega (arith, boat_there c.requires c.loop-lower.invariant (sym c.is_mark.ensures ∙ c.loop-lower-test.true) _ c.from-lower.ensures, c.requires.front)

pub slice_bounds-copy_from_slice-end : goal.slice_bounds-copy_from_slice-end
slice_bounds-copy_from_slice-end c =
    omega (arith, (room c.requires c.loop-lower.invariant (sym c.is_mark.ensures ∙ c.loop-lower-test.true) _ c.from-lower.ensures _ c.from-slots.ensures).0)

pub slice_bounds-copy_from_slice-end-in-loop-lower : goal.slice_bounds-copy_from_slice-end-in-loop-lower
slice_bounds-copy_from_slice-end-in-loop-lower c =
    omega (arith, words_there c.requires c.loop-lower.invariant (sym c.is_mark.ensures ∙ c.loop-lower-test.true) _ c.from-lower.ensures _ c.from-slots.ensures)

pub slice_bounds-fill_rows-end : goal.slice_bounds-fill_rows-end
slice_bounds-fill_rows-end c =
    omega (arith, words_there c.requires c.loop-lower.invariant (sym c.is_mark.ensures ∙ c.loop-lower-test.true) _ c.from-lower.ensures _ c.from-slots.ensures)

pub slice_bounds-fill_rows-end-in-loop-lower : goal.slice_bounds-fill_rows-end-in-loop-lower
slice_bounds-fill_rows-end-in-loop-lower c =
    omega (arith, (room c.requires c.loop-lower.invariant (sym c.is_mark.ensures ∙ c.loop-lower-test.true) _ c.from-lower.ensures _ c.from-slots.ensures).1)

pub loop-lower-preserved : goal.loop-lower-preserved
loop-lower-preserved c =
    let l = c.loop-lower in
    let s = c.from-slots.result in
    let two : 2 * l.pair + 2 - 2 * l.pair ≡ 2 = omega arith in
    let many : l.word + s - l.word ≡ s = omega arith in
    let next : l.at + 4 + 8 * s ≡ l.at + (4 + 8 * s) = omega arith in
    let bytes : l.at + 4 - (l.at + 2) ≡ 2 = omega arith in
    let span : l.at + 4 + 8 * s - (l.at + 4) ≡ 8 * s = omega arith in
    let room_is : length (take (l.word + s - l.word) (drop l.word l.rows)) ≡ s =
    ap (λ n. length (take n (drop l.word l.rows))) many
    ∙ length-take-le s (drop l.word l.rows)
    (omega (arith, length-drop l.word l.rows, c.loop-lower.auto.rows, (room c.requires l.invariant (sym c.is_mark.ensures ∙ c.loop-lower-test.true) _ c.from-lower.ensures _ c.from-slots.ensures).1)) in
    rw (two, many, next)
    (second_steps c.requires l.invariant (sym c.is_mark.ensures ∙ c.loop-lower-test.true) _ c.from-lower.ensures _ c.from-slots.ensures _ _
    (c.copy_from_slice.ensures.after ∙ ap (λ n. take n (drop (l.at + 2) c.args.file.now)) bytes)
    (c.fill_rows.ensures ∙ ap₂ (λ m n. words_of m (take n (drop (l.at + 4) c.args.file.now))) room_is span))

-- At every pair the PRs before it are there.
use mathlib.Core.Path.{◌≡◌, ap, ◌∙◌}
use mathlib.Core.List.{[], ◌∷◌}
use Prim.Native.Nat.{◌+◌, ◌-◌, ◌*◌, ◌≤◌, ◌<◌}
use native.Mathlib.Omega.{arith}
use lib.ListN.{get_or, take, drop, length}
use Rattle.problem.specs.Tables.{size, listed, lower}
use Rattle.files.specs.Bytes.{joined}
use Rattle.writer.proofs.Puts.{row_bytes}
use Rattle.writer.proofs.Pairs.{pairs_begin, rows_inside, pair_inside, pairs_more, pairs_done}
use Rattle.writer.proofs.put_pairs.Goals as goal
use Rattle.writer.proofs.put_pairs.Goals.{After-size-slots}

-- the pair at hand is listed, its slots are its lower boat's, and its rows and its PR have room
record AtHand (c : After-size-slots) : Type 0 where
  listed_here : c.loop-k.k < listed c.args.tables.now.pairs
  slots : c.size-slots.result ≡ size c.args.tables.now.sizes (lower c.args.tables.now.pairs c.loop-k.k)
  rows : c.loop-k.start + c.size-slots.result ≤ length c.args.tables.now.rows
  record_fits : c.loop-k.at + (4 + 8 * c.size-slots.result) ≤ length c.loop-k.file

at_hand : (c : After-size-slots) → AtHand c
at_hand c =
    let l = c.loop-k in
    let sane = c.pairs-k-end.ensures.sane in
    let here : l.k < listed c.args.tables.now.pairs = omega arith in
    let slots : c.size-slots.result ≡ size c.args.tables.now.sizes (lower c.args.tables.now.pairs l.k) =
    c.size-slots.ensures.value ∙ ap (size c.args.tables.now.sizes) c.lower.ensures.value in
    record {
      listed_here = here;
      slots = slots;
      rows = rows_inside l.invariant sane c.requires here slots;
      record_fits = pair_inside l.invariant sane c.requires here slots;
    }

pub loop-k-init : goal.loop-k-init
loop-k-init c = pairs_begin _ _

pub slice_bounds-copy_from_slice-end : goal.slice_bounds-copy_from_slice-end
slice_bounds-copy_from_slice-end c = let q = at_hand (goal.at.slice_bounds-copy_from_slice-end c).After-size-slots in omega (arith, q.record_fits)

pub overflow_add-start : goal.overflow_add-start
overflow_add-start c = let q = at_hand (goal.at.overflow_add-start c).After-size-slots in omega (arith, q.rows, ap length c.row_words.ensures)

pub offset_bounds-row_words-start : goal.offset_bounds-row_words-start
offset_bounds-row_words-start c = let q = at_hand (goal.at.offset_bounds-row_words-start c).After-size-slots in omega (arith, q.rows, ap length c.row_words.ensures, c.row_words.type_inv)

pub slice_bounds-put_words-end : goal.slice_bounds-put_words-end
slice_bounds-put_words-end c = let q = at_hand (goal.at.slice_bounds-put_words-end c).After-size-slots in omega (arith, q.rows, ap length c.row_words.ensures)

pub slice_bounds-put_words-end-in-loop-k : goal.slice_bounds-put_words-end-in-loop-k
slice_bounds-put_words-end-in-loop-k c = let q = at_hand (goal.at.slice_bounds-put_words-end-in-loop-k c).After-size-slots in omega (arith, q.record_fits)

pub loop-k-preserved : goal.loop-k-preserved
loop-k-preserved c =
    let l = c.loop-k in
    let q = at_hand (goal.at.loop-k-preserved c).After-size-slots in
    let many = l.start + c.size-slots.result - l.start in
    pairs_more l.invariant c.pairs-k-end.ensures.sane c.requires q.listed_here q.slots _ _ many _ _ _ (omega arith) (omega arith) (omega arith) (omega arith)
    (c.copy_from_slice.ensures.after ∙ ap (λ pairs. 0x50 ∷ 0x52 ∷ get_or pairs (2 * l.k) 0 ∷ get_or pairs (2 * l.k + 1) 0 ∷ []) c.pair_bytes-pairs.ensures)
    (c.put_words.ensures ∙ ap (λ rows. joined (length (take many (drop l.start rows))) (row_bytes (take many (drop l.start rows)))) c.row_words.ensures)

pub returns : goal.returns
returns c = pairs_done c.loop-k.invariant c.pairs-k-end.ensures.sane c.requires (omega arith)

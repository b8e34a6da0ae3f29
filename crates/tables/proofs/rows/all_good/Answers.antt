-- The walk of the words, pair by pair.
use mathlib.Core.Path.{◌≡◌, refl, ap, ◌∙◌}
use Prim.Native.Nat.{◌+◌, ◌≤◌, ◌<◌}
use native.Mathlib.Numerals.{add-one}
use native.Mathlib.Omega.{arith}
use lib.ListN.{length}
use Rattle.problem.specs.Tables.{Tables, tables, boats, size, lower, higher}
use Rattle.problem.specs.declared.Refusal.TheVariants.{RowBit}
use Rattle.tables.specs.Framed.{Framed}
use Rattle.tables.proofs.Examining.{word_test}
use Rattle.tables.proofs.Ways.{way_first, way_nowhere}
use Rattle.tables.proofs.Words.{walk_begins, walk_inside, walk_stops, walk_goes, walk_ends}
use Rattle.tables.proofs.rows.all_good.Goals as goal

pub loop-k-init : goal.loop-k-init
loop-k-init g c = walk_begins _

pub overflow_add-to : goal.overflow_add-to
overflow_add-to g c =
    let T : Tables = let a = c.args in tables a.sizes.now a.pairs.now a.rows.now in
    let framed : Framed T = rw c.requires.0 c.requires.1 in
    let count_is : c.size_of.result ≡ size T.sizes (lower T.pairs c.loop-k.k) =
    c.size_of.ensures.0 ∙ ap (size T.sizes) c.lower_of.ensures.0 in
    let inside : c.loop-k.from + c.size_of.result ≤ length T.rows =
    walk_inside c.loop-k.invariant framed.row_words c.loop-k-test.true count_is in
    omega (arith, inside)

pub first_wide_word-requires : goal.first_wide_word-requires
first_wide_word-requires g c =
    let T : Tables = let a = c.args in tables a.sizes.now a.pairs.now a.rows.now in
    let framed : Framed T = rw c.requires.0 c.requires.1 in
    let count_is : c.size_of.result ≡ size T.sizes (lower T.pairs c.loop-k.k) =
    c.size_of.ensures.0 ∙ ap (size T.sizes) c.lower_of.ensures.0 in
    let inside : c.loop-k.from + c.size_of.result ≤ length T.rows =
    walk_inside c.loop-k.invariant framed.row_words c.loop-k-test.true count_is in
    let higher_named : c.higher_of.result < boats T =
    rw c.higher_of.ensures.0 (framed.higher_named c.loop-k.k c.loop-k-test.true) in
    record { from_le_to = omega arith; to_in_bounds = inside; size_bound = rw c.size_of-size.ensures.0 (framed.few_slots c.higher_of.result higher_named) }

pub returns-in-Some : goal.returns-in-Some
returns-in-Some g c =
    let T : Tables = let a = c.args in tables a.sizes.now a.pairs.now a.rows.now in
    let framed : Framed T = rw c.requires.0 c.requires.1 in
    let count_is : c.size_of.result ≡ size T.sizes (lower T.pairs c.loop-k.k) =
    c.size_of.ensures.0 ∙ ap (size T.sizes) c.lower_of.ensures.0 in
    let bits_is : c.size_of-size.result ≡ size T.sizes (higher T.pairs c.loop-k.k) =
    c.size_of-size.ensures.0 ∙ ap (size T.sizes) c.higher_of.ensures.0 in
    let bad = walk_stops c.loop-k.invariant framed.row_words c.loop-k-test.true count_is bits_is c.in-Some.ensures in
    rw (← c.requires.0) (way_first (word_test T) bad.0 bad.1 (RowBit c.in-Some.word) (bad.2, refl))

pub loop-k-preserved : goal.loop-k-preserved
loop-k-preserved g c =
    let T : Tables = let a = c.args in tables a.sizes.now a.pairs.now a.rows.now in
    let framed : Framed T = rw c.requires.0 c.requires.1 in
    let count_is : c.size_of.result ≡ size T.sizes (lower T.pairs c.loop-k.k) =
    c.size_of.ensures.0 ∙ ap (size T.sizes) c.lower_of.ensures.0 in
    let bits_is : c.size_of-size.result ≡ size T.sizes (higher T.pairs c.loop-k.k) =
    c.size_of-size.ensures.0 ∙ ap (size T.sizes) c.higher_of.ensures.0 in
    rw add-one (walk_goes c.loop-k.invariant framed.row_words c.loop-k-test.true count_is bits_is c.in_default.ensures)

pub returns : goal.returns
returns g c =
    let T : Tables = let a = c.args in tables a.sizes.now a.pairs.now a.rows.now in
    let framed : Framed T = rw c.requires.0 c.requires.1 in
    rw (← c.requires.0) (way_nowhere (word_test T) (walk_ends c.loop-k.invariant framed.row_words c.loop-k-test.false))

-- The last live word of the boat stands among the live words, and its blame beside them.
use Rattle.std.proofs.Common.{List, ℕ, ◌<◌, arith}
use Rattle.problem.specs.Tables.{Tables}
use Rattle.words.specs.Places.{blames, last_at}
use Rattle.words.specs.Layout.{word}
use Rattle.words.proofs.Chains.{last_before_lem}
use Rattle.visits.specs.declared.Backward.TheVariants.{BySets}
use Rattle.moves.specs.declared.Moves.TheVariants.{LookingAhead}
use Rattle.moves.specs.Memory.{Kept}
use Rattle.unlabelling.specs.Unlabels.{Leaving}
use Rattle.unlabelling.proofs.Jumping.{all_blamed, blamed_below}
use Rattle.unlabelling.proofs.to_blame.Goals as goal

among : (t : Tables) (w : List ℕ) (i : ℕ) → Leaving t w i → Kept (LookingAhead BySets) t w i → word w (last_at i) < blames
among t w i g known = omega (arith, last_before_lem t g.sane known.words.chained i g.boat, g.sane.few_pairs)

pub overflow_add-result-2 : goal.overflow_add-result-2
overflow_add-result-2 c = omega (arith, among c.args.tables.now c.args.work.now c.args.i c.requires.leaving c.requires.kept)

pub offset_bounds-work-last : goal.offset_bounds-work-last
offset_bounds-work-last c = omega (arith, among c.args.tables.now c.args.work.now c.args.i c.requires.leaving c.requires.kept)

pub bounds-work-last : goal.bounds-work-last
bounds-work-last c = omega (arith, among c.args.tables.now c.args.work.now c.args.i c.requires.leaving c.requires.kept, c.requires.leaving.room)

pub returns : goal.returns
returns c =
    let q = c.requires.kept in
    record { among = all_blamed c.requires.leaving q.words q.sets (λ k. (c.type_inv.work k).fits); below = blamed_below c.requires.leaving q.words q.sets }

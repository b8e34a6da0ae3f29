-- By one boat, or by sets.
use Rattle.std.proofs.Common.{◌≡◌, List, ℕ, sym, subst}
use Rattle.std.specs.Prelude.{Option}
use Rattle.problem.specs.Tables.{Tables}
use Rattle.visits.specs.declared.Backward.{Backward}
use Rattle.moves.specs.declared.Moves.TheVariants.{LookingAhead}
use Rattle.moves.specs.Memory.{Kept}
use Rattle.unlabelling.specs.Unlabels.{Unlabels}
use Rattle.unlabelling.proofs.Backwards.{left_few, ahead_by_one}
use Rattle.unlabelling.proofs.Jumping.{ahead_by_sets}
use Rattle.unlabelling.proofs.unlabel_ahead.Goals as goal

-- under the name of the way back at hand
kept_as : (t : Tables) (w : List ℕ) (i : ℕ) {b y : Backward} → b ≡ y → Kept (LookingAhead b) t w i → Kept (LookingAhead y) t w i
kept_as t w i e = subst (λ (x : Backward). Kept (LookingAhead x) t w i) e

unlabels_as : (t : Tables) (w : List ℕ) (i : ℕ) {b y : Backward} → b ≡ y → (w' : List ℕ) (r : Option ℕ) → Unlabels (LookingAhead y) t w i w' r → Unlabels (LookingAhead b) t w i w' r
unlabels_as t w i e w' r = subst (λ (x : Backward). Unlabels (LookingAhead x) t w i w' r) (sym e)

pub to_blame-requires : goal.to_blame-requires
to_blame-requires c = record { leaving = c.requires.leaving; kept = kept_as c.args.tables.now c.args.work.now c.args.i c.in-BySets.is c.requires.kept }

pub jump_back-requires : goal.jump_back-requires
jump_back-requires c =
    let s = c.requires.leaving in
    let q = kept_as c.args.tables.now c.args.work.now c.args.i c.in-BySets.is c.requires.kept in
    (left_few s, s.room, c.to_blame.ensures.below, q.sets)

pub returns-in-OneBack : goal.returns-in-OneBack
returns-in-OneBack c =
    let e = c.in-OneBack.is in
    unlabels_as c.args.tables.now c.args.work.now c.args.i e c.args.work.now c.step_back.result
    (ahead_by_one c.requires.leaving c.step_back.ensures (kept_as c.args.tables.now c.args.work.now c.args.i e c.requires.kept).words)

pub returns-in-BySets : goal.returns-in-BySets
returns-in-BySets c =
    let e = c.in-BySets.is in
    let q = kept_as c.args.tables.now c.args.work.now c.args.i e c.requires.kept in
    let u = c.jump_back.new.work in
    unlabels_as c.args.tables.now c.args.work.now c.args.i e u c.jump_back.result (ahead_by_sets c.requires.leaving q.words q.sets _ c.to_blame.ensures.among u c.jump_back.result c.jump_back.ensures)

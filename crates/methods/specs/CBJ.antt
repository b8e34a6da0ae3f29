-- CBJ, conflict-directed backjumping: as BT, and each boat has a conflict set.
use Rattle.std.specs.Prelude.{false, cond, not, ◌&&◌, ◌||◌, List, [], ℕ, zero, suc, ltb, leb, eqb, length}
use Rattle.std.proofs.Math.Option.{Option, none, some}
use Rattle.problem.specs.Tables.{Tables, boats}
use Rattle.methods.specs.Machine.{Left, nowhere, back, Steps}
use Rattle.methods.specs.Moves.{Boats, Verdict, pass, fail, passes, remembered, Forward}
use Rattle.methods.specs.BT.{looking_back}

-- each boat's set, and what the forward move remembers
abbrev pub Sets : Type 0
Sets = ℕ → Boats

pub record Jumping (S : Type 0) : Type 0 where
  pub sets : Sets
  pub rest : S

-- a trial of boat i that fails puts the boats to blame into i's set
abbrev pub blamed : Sets → (i : ℕ) → {S : Type 0} → Verdict S → Sets
blamed sets i (pass τ) = sets
blamed sets i (fail s) = λ k j. cond (eqb k i) (sets k j || s j) (sets k j)

-- the deepest member of a set of boats below n; none where it is empty
unfoldable pub deepest : (n : ℕ) → Boats → Option ℕ
deepest zero s = none
deepest (suc n) s = cond (s n) (some n) (deepest n s)

-- boat i, with the boats s to blame, goes back to boat h: the set of h becomes the union of both without h; the sets of h + 1 to i are emptied
abbrev pub handed_down : Sets → (i h : ℕ) → Boats → Sets
handed_down sets i h s = λ k j. cond (eqb k h) ((sets h j || s j) && not (eqb j h)) (cond (ltb h k && leb k i) false (sets k j))

-- no choice left at boat i: if nobody is to blame, no plan; else back to the deepest of them
abbrev pub jump : {S : Type 0} → Forward S → Jumping S → (i : ℕ) → Boats → Option ℕ → Left (Jumping S)
jump F σ i s none = nowhere
jump F σ i s (some h) = back h (record { sets = handed_down σ.sets i h s; rest = F.put_back h σ.rest })

-- i's set with i's blamers
abbrev pub to_blame : {S : Type 0} → Forward S → Jumping S → (plan : List ℕ) → Boats
to_blame F σ p = λ j. σ.sets (length p) j || F.blamers σ.rest p j

-- jumping over a forward move. A boat that moves forward keeps its set
abbrev pub jumping : Tables → {S : Type 0} → Forward S → Steps (Jumping S)
jumping t F =
    record {
      start = record { sets = λ k j. false; rest = F.start };
      ready = λ σ p a. record { checks = []; passed = F.live σ.rest p a; after = σ };
      label = λ σ p a. record {
        checks = (F.trial σ.rest p a).checks;
        passed = passes (F.trial σ.rest p a).verdict;
        after = record {
          sets = blamed σ.sets (length p) (F.trial σ.rest p a).verdict;
          rest = remembered σ.rest (F.trial σ.rest p a).verdict;
        };
      };
      unlabel = λ σ p. jump F σ (length p) (to_blame F σ p) (deepest (boats t) (to_blame F σ p));
    }

unfoldable pub cbj : Tables → Steps (Jumping (Unit {0}))
cbj t = jumping t (looking_back t)

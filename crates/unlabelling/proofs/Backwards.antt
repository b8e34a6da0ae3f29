-- The way back: what is known of the words at a boat is known at each boat before it; the moves that go back by one boat.
use mathlib.Core.Path.{◌≡◌, refl, sym, ap, ◌∙◌, subst}
use mathlib.Core.Bool.{cond}
use mathlib.Core.List.{List}
use mathlib.Core.Logic.{inr}
use Prim.Native.Nat.{ℕ, zero, suc, ◌+◌, ◌-◌, ◌≤◌, ◌<◌, min}
use native.Mathlib.Omega.{arith}
use native.Mathlib.Decide.{ℕ_discrete}
use borrow.Author.Tests.{eq-eqb, ne_eqb, lt-ltb}
use lib.Dec.{ltb, eqb}
use lib.ListN.{length, take}
use lib.Seq.{length-take-le, take-take}
use Rattle.problem.specs.Tables.{Tables, boats}
use Rattle.methods.specs.Machine.{nowhere, back}
use Rattle.methods.specs.Moves.{Forward, one_back}
use Rattle.methods.specs.BM.{Marks, bm, lowered}
use Rattle.methods.specs.BT.{looking_back}
use Rattle.methods.specs.ByPlan.{ahead_by_plan}
use Rattle.words.specs.Places.{low_at}
use Rattle.words.specs.Layout.{word, ChangedOnly, Placed}
use Rattle.words.proofs.ChangedOnly.{only_refl, only_widen, only_take}
use Rattle.words.proofs.Frames.{same_before, same_after, placed_stays, indexed_stays, linked_stays, firsts_stay, chained_stays}
use Rattle.visits.specs.declared.Backward.{Backward}
use Rattle.visits.specs.declared.Backward.TheVariants.{OneBack}
use Rattle.std.specs.Prelude.{Option, Some, None}
use Rattle.visits.specs.Visits.{steps_over}
use Rattle.looking_back.specs.Kept.{KeptBack}
use Rattle.marks.specs.Marks.{marks_of, NeverRises}
use Rattle.live_words.specs.Lives.{Lives}
use Rattle.live_words.specs.Kept.{KeptAhead}
use Rattle.live_words.proofs.Live.{lives_stay, blames_kept, blames_less}
use Rattle.moves.specs.declared.Moves.TheVariants.{LookingBack, Marking, LookingAhead}
use Rattle.moves.specs.Memory.{Kept}
use Rattle.unlabelling.specs.Unlabels.{Leaving, Unlabels}
use Rattle.unlabelling.specs.Jumps.{steps_back}

-- ---- at a boat before
module _ (t : Tables) (w : List ℕ) {i h : ℕ} (lh : h < i) where
  placed_back : Placed t w i → Placed t w h
  placed_back p k lk = p k (omega arith)

  lives_back : Lives t w (take i w) i → Lives t w (take h w) h
  lives_back l k j b lk lj jn lb = rw (take-take k h w lk) (rw (take-take k i w (omega arith)) at (l k j b (omega arith) lj jn lb))

-- ---- boat i is left: the words of the sets, or of b, may have changed
module _ {t : Tables} {w : List ℕ} {i : ℕ} (g : Leaving t w i) where
  pub left_few : i < 64
  left_few = omega (arith, g.boat, g.sane.few_boats)

  pub left_long : i ≤ length w
  left_long = omega (arith, left_few, g.room)

  pub left_plan : length (take i w) ≡ i
  left_plan = length-take-le i w left_long

  module _ {w' : List ℕ} {h : ℕ} (o : ChangedOnly 64 128 w w') (lh : h < i) where
    placed_then : Placed t w i → Placed t w' h
    placed_then p = placed_stays t w w' h (same_before o (omega (arith, left_few))) (placed_back t w lh p)

    pub back_kept : KeptBack t w i → KeptBack t w' h
    back_kept q = record { linked = linked_stays t o (omega arith) q.linked; placed = placed_then q.placed }

    pub ahead_kept : {backward : Backward} → KeptAhead backward t w i → KeptAhead backward t w' h
    ahead_kept {backward} q =
        record {
          firsts = firsts_stay t w w' g.sane.few_boats (same_after o (omega arith)) q.firsts;
          chained = chained_stays t w w' g.sane (same_after o (omega arith)) q.chained;
          placed = placed_then q.placed;
          lives = rw (only_take o h (omega (arith, left_few)) (omega (arith, left_long))) (lives_stay t w w' g.sane (take h w) h (same_after o (omega arith)) (lives_back t w lh q.lives));
          blames = blames_kept t w w' g.sane backward h (same_after o (omega arith)) (same_after o (omega arith)) (blames_less backward t w (omega arith) q.blames);
        }

-- ---- one boat back
pub stepped : (i : ℕ) {h : ℕ} → steps_back i ≡ Some h → i ≡ suc h
stepped zero e = cc
stepped (suc n) e = ap suc cc

pub stepped_none : (i : ℕ) → steps_back i ≡ None → i ≡ 0
stepped_none zero e = refl
stepped_none (suc n) e = cc

-- over a forward move that remembers nothing
module _ (t : Tables) (F : Forward (Unit {0})) (p : List ℕ) where
  goes_nowhere : length p ≡ 0 → (steps_over t F OneBack).unlabel tt p ≡ nowhere
  goes_nowhere e = ap (λ (n : ℕ). one_back n (λ h. F.put_back h tt)) e

  goes_one : (h : ℕ) → length p ≡ suc h → (steps_over t F OneBack).unlabel tt p ≡ back h tt
  goes_one h e = ap (λ (n : ℕ). one_back n (λ h. F.put_back h tt)) e

back_steps : {t : Tables} {w : List ℕ} (i : ℕ) → Leaving t w i → KeptBack t w i → Unlabels (LookingBack OneBack) t w i w (steps_back i)
back_steps {t} {w} zero g q = record { only = only_refl _ _ w; goes = goes_nowhere t (looking_back t) (take 0 w) (left_plan g) }
back_steps {t} {w} (suc h) g q =
    record {
      below = omega arith;
      same = refl;
      only = only_refl _ _ w;
      kept = record { words = back_kept g (only_refl _ _ w) (omega arith) q; sets = tt };
      goes = goes_one t (looking_back t) (take (suc h) w) h (left_plan g);
    }

ahead_steps : {t : Tables} {w : List ℕ} (i : ℕ) → Leaving t w i → KeptAhead OneBack t w i → Unlabels (LookingAhead OneBack) t w i w (steps_back i)
ahead_steps {t} {w} zero g q = record { only = only_refl _ _ w; goes = goes_nowhere t (ahead_by_plan t) (take 0 w) (left_plan g) }
ahead_steps {t} {w} (suc h) g q =
    record {
      below = omega arith;
      same = refl;
      only = only_refl _ _ w;
      kept = record { words = ahead_kept g (only_refl _ _ w) (omega arith) q; sets = tt };
      goes = goes_one t (ahead_by_plan t) (take (suc h) w) h (left_plan g);
    }

module _ {t : Tables} {w : List ℕ} {i : ℕ} (g : Leaving t w i) where
  pub back_by_one : {r : Option ℕ} → r ≡ steps_back i → KeptBack t w i → Unlabels (LookingBack OneBack) t w i w r
  back_by_one e q = subst (λ (x : Option ℕ). Unlabels (LookingBack OneBack) t w i w x) (sym e) (back_steps i g q)

  pub ahead_by_one : {r : Option ℕ} → r ≡ steps_back i → KeptAhead OneBack t w i → Unlabels (LookingAhead OneBack) t w i w r
  ahead_by_one e q = subst (λ (x : Option ℕ). Unlabels (LookingAhead OneBack) t w i w x) (sym e) (ahead_steps i g q)

  -- ---- and the marks' b lowered
  pub marked_none : i ≡ 0 → Unlabels Marking t w i w None
  unfolding bm
  marked_none e = record { only = only_refl _ _ w; goes = ap (λ (n : ℕ). one_back n (λ h. lowered (marks_of w) (length (take i w)) h)) (left_plan g ∙ e) }

  pub marked_back : Kept Marking t w i → (i ≡ 0 → ⊥) → {w' : List ℕ} → marks_of w' ≡ lowered (marks_of w) i (i - 1) → ChangedOnly (low_at i) (low_at (boats t)) w w' →
      Unlabels Marking t w i w' (Some (i - 1))
  unfolding bm
  marked_back q ne {w'} e o =
      let few = g.sane.few_boats in
      let wide : ChangedOnly 64 128 w w' = only_widen (omega arith) (omega arith) o in
      record {
        below = omega arith;
        same = only_take o (suc (i - 1)) (omega arith) (omega (arith, left_long g));
        only = only_widen (omega arith) (omega arith) o;
        kept = record {
          indexed = indexed_stays t w w' few (same_after wide (omega arith)) q.indexed;
          placed = placed_then g wide (omega arith) q.placed;
          none = λ k lo hi. o.others k (inr lo) ∙ q.none k lo hi;
          falls = falls;
        };
        goes =
            ap (λ (n : ℕ). one_back n (λ h. lowered (marks_of w) n h)) (left_plan g ∙ before)
            ∙ ap (λ (n : ℕ). back (i - 1) (lowered (marks_of w) n (i - 1))) (sym before)
            ∙ ap (back (i - 1)) (sym e);
      }
    where
      before : i ≡ suc (i - 1)
      before = omega arith

      -- b of a boat below 64, from the marks
      low : (j : ℕ) → j < 64 → word w' (64 + j) ≡ cond (eqb j i) (i - 1) (cond (ltb i j) (min (word w (64 + j)) (i - 1)) (word w (64 + j)))
      low j l = rw (lt-ltb j 64 l) at (ap (λ (σ : Marks). σ.b j) e)

      falls : NeverRises w' (i - 1)
      falls j lo hi = by (ℕ_discrete j i)
        where
          next : word w' (64 + (j + 1)) ≡ min (word w (64 + (j + 1))) (i - 1)
          next = rw (ne_eqb (j + 1) i (omega arith), lt-ltb i (j + 1) (omega arith)) at (low (j + 1) (omega arith))

          by : Dec (j ≡ i) → word w' (64 + (j + 1)) ≤ word w' (64 + j)
          by (yes f) = let y : word w' (64 + j) ≡ i - 1 = rw (eq-eqb j i f) at (low j (omega arith)) in omega (arith, next, y)
          by (no nf) =
              let y : word w' (64 + j) ≡ min (word w (64 + j)) (i - 1) = rw (ne_eqb j i nf, lt-ltb i j (omega arith)) at (low j (omega arith)) in
              omega (arith, next, y, q.falls j (omega arith) hi)

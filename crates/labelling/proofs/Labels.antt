-- The forward move over the words, from what the visit comes to.
use mathlib.Core.Path.{◌≡◌, sym, ap, ◌∙◌, subst, subst₂}
use mathlib.Core.Bool.{cond, ◌&&◌}
use mathlib.Core.Logic.{inl, inr}
use mathlib.Core.List.{List, [], ◌∷◌, ◌++◌}
use Prim.Native.Nat.{ℕ, suc, ◌+◌, ◌*◌, ◌≤◌, ◌<◌}
use native.Mathlib.Omega.{arith}
use lib.Dec.{ltb}
use lib.ListN.{length, take, set, length-set}
use lib.Seq.{length-take-le, take-suc-set, get_or-set_other}
use Rattle.problem.specs.Tables.{Tables, size}
use Rattle.problem.specs.Sane.{Sane}
use Rattle.problem.specs.declared.Allowance.{Allowance}
use Rattle.problem.specs.declared.Allowance.TheVariants.{Checks, Trials}
use Rattle.events.specs.declared.Counts.{Counts}
use Rattle.methods.specs.Choices.{choices}
use Rattle.methods.specs.Moves.{Forward}
use Rattle.methods.specs.BT.{looking_back}
use Rattle.methods.specs.BM.{Marks, bm}
use Rattle.methods.specs.ByPlan.{ahead_by_plan}
use Rattle.methods.proofs.Shown.{choices_size}
use Rattle.words.specs.Places.{lives, blames, used, set_at, next_set_at, low_at, live_at, blame_at}
use Rattle.words.specs.Layout.{word, ChangedOnly, first_pair}
use Rattle.words.specs.Sets.{set_words}
use Rattle.words.proofs.ChangedOnly.{only_refl, only_trans, only_set, only_widen, only_take}
use Rattle.words.proofs.Firsts.{first_le}
use Rattle.words.proofs.Frames.{same_before, same_after, placed_stays, indexed_stays, linked_stays, firsts_stay, chained_stays}
use Rattle.visits.specs.declared.Backward.{Backward}
use Rattle.visits.specs.declared.Visited.{Visited}
use Rattle.visits.specs.declared.Visited.TheVariants.{Passed, Spent, OutOfChecks, OutOfTrials}
use Rattle.visits.specs.Visits.{Standing, State, steps_over, state, Passes, Spends, RunsOut, Visits}
use Rattle.looking_back.specs.Kept.{KeptBack}
use Rattle.marks.specs.Marks.{marks_of}
use Rattle.marking.specs.Visits.{VisitsMarked}
use Rattle.looking_ahead.specs.Ahead.{LivesAfter}
use Rattle.live_words.specs.Kept.{BlamesKept, KeptAhead, Blaming}
use Rattle.live_words.proofs.Live.{lives_stay, blames_kept}
use Rattle.moves.specs.declared.Moves.TheVariants.{LookingBack, Marking, LookingAhead}
use Rattle.moves.specs.Memory.{SetsKept, Kept}
use Rattle.storing.specs.Stored.{passed_words, set_stored, set_begun_with}
use Rattle.labelling.specs.Labels.{MovesOn, NoneLeft, Halts}
use Rattle.storing.proofs.Stored.{Visiting, placed_set, begun_state, stored_after, passed_plan, passed_only, passed_placed, passed_sets, passed_state, left_other, left_plan, left_only, left_sets, left_state}

-- a choice of boat i is one of its slots
in_size : (t : Tables) (w : List ℕ) (i b : ℕ) → i ≤ length w → b < choices t (length (take i w)) → b < size t.sizes i
in_size t w i b le l = rw (← choices_size t i, ← length-take-le i w le) l

-- ---- a visit of boat i, from slot a on and with the set x, has gone from the words w to v, and answers r
pub record AfterVisit (t : Tables) (F : Forward (Unit {0})) (backward : Backward) (w : List ℕ) (i a x : ℕ) (m : Counts) (v : List ℕ) (r : Visited) : Type 0 where
  pub standing : Standing t w i m
  pub begun : x ≡ set_begun_with backward w i
  pub sets : SetsKept backward w i
  pub visits : Visits t F backward w i a x m r
  pub only : ChangedOnly lives used w v

module _ {t : Tables} {F : Forward (Unit {0})} {backward : Backward} {w : List ℕ} {i a x : ℕ} {m : Counts} {v : List ℕ} {r : Visited}
    (c : AfterVisit t F backward w i a x m v r) where
  few : i < 64
  few = omega (arith, c.standing.boat, c.standing.sane.few_boats)

  told : (y : Visited) → r ≡ y → Visits t F backward w i a x m y
  told y e = subst (Visits t F backward w i a x m) e c.visits

  visiting : Visiting w v i
  visiting = record { few = few; room = c.standing.room; visit = c.only }

  -- what is remembered of it is what the words hold once it is stored
  abbrev first : State backward
  first = state backward (set_words w i (word w (set_at i)))

  abbrev held_at : List ℕ → ℕ → State backward
  held_at u j = state backward (set_words u j (word u (set_at j)))

  module _ (b s : ℕ) (k : Counts) (e : r ≡ Passed k s b) {u : List ℕ} (after : ChangedOnly lives used (passed_words v i b s) u) where
    slot_inside : b < size t.sizes i
    slot_inside = in_size t w i b (omega (arith, few, c.standing.room)) (told (Passed k s b) e).ends.inside

    passes : Passes t (steps_over t F backward) (take i w) a first m b (held_at u (suc i)) k
    passes =
        subst₂ (λ (σ τ : State backward). Passes t (steps_over t F backward) (take i w) a σ m b τ k) (begun_state backward w i c.begun) (passed_state visiting b s after backward)
        (told (Passed k s b) e).ends

  spends : (s : ℕ) (k : Counts) → r ≡ Spent k s → Spends t (steps_over t F backward) (take i w) a first m (held_at (set_stored v i s) i) k
  spends s k e =
      subst₂ (λ (σ τ : State backward). Spends t (steps_over t F backward) (take i w) a σ m τ k) (begun_state backward w i c.begun) (left_state visiting s backward)
      (told (Spent k s) e).ends

  halts : (s : ℕ) (which : Allowance) (b made : ℕ) (k : Counts) →
      RunsOut t (steps_over t F backward) (take i w) a (state backward (set_words w i x)) m which b (state backward (set_words w i s)) made k →
      RunsOut t (steps_over t F backward) (take i w) a first m which b (held_at (set_stored v i s) i) made k
  halts s which b made k h =
      subst₂ (λ (σ τ : State backward). RunsOut t (steps_over t F backward) (take i w) a σ m which b τ made k) (begun_state backward w i c.begun) (left_state visiting s backward) h

-- ---- looking back: a visit changes no word
module _ {t : Tables} {backward : Backward} {w : List ℕ} {i a x : ℕ} {m : Counts} {r : Visited} (c : AfterVisit t (looking_back t) backward w i a x m w r) (q : KeptBack t w i) where
  pub back_passed : (b s : ℕ) (k : Counts) → r ≡ Passed k s b → MovesOn (LookingBack backward) t w i a m (passed_words w i b s) k
  back_passed b s k e =
      record {
        slot = b;
        placed = passed_plan (visiting c) b s none;
        only = passed_only (visiting c) b s none;
        kept = record {
          words = record { linked = linked_stays t stored (omega arith) q.linked; placed = passed_placed (visiting c) b s none t (slot_inside c b s k e none) q.placed };
          sets = passed_sets (visiting c) b s none backward (told c (Passed k s b) e).below c.sets;
        };
        passes = passes c b s k e none;
      }
    where
      none : ChangedOnly lives used (passed_words w i b s) (passed_words w i b s)
      none = only_refl _ _ _

      stored : ChangedOnly 0 129 w (passed_words w i b s)
      stored =
          only_trans (only_set w i b (omega arith) (omega (arith, few c)))
          (only_trans (only_set (set w i b) (64 + i) s (omega arith) (omega (arith, few c)))
          (only_set (set (set w i b) (64 + i) s) (65 + i) 0 (omega arith) (omega (arith, few c))))

  back_kept : (s : ℕ) → SetsKept backward (set_stored w i s) i → Kept (LookingBack backward) t (set_stored w i s) i
  back_kept s sets =
      let o : ChangedOnly 64 128 w (set_stored w i s) = only_set w (64 + i) s (omega arith) (omega (arith, few c)) in
      record {
        words = record { linked = linked_stays t o (omega arith) q.linked; placed = placed_stays t w (set_stored w i s) i (same_before o (omega (arith, few c))) q.placed };
        sets = sets;
      }

  pub back_spent : (s : ℕ) (k : Counts) → r ≡ Spent k s → NoneLeft (LookingBack backward) t w i a m (set_stored w i s) k
  back_spent s k e =
      record {
        same = left_plan (visiting c) s;
        only = left_only (visiting c) s;
        kept = back_kept s (left_sets (visiting c) s backward (told c (Spent k s) e).below c.sets);
        spends = spends c s k e;
      }

  pub back_checks : (b s made : ℕ) (k : Counts) → r ≡ OutOfChecks k s b made → Halts (LookingBack backward) t w i a m (set_stored w i s) Checks b made k
  back_checks b s made k e =
      record {
        same = left_plan (visiting c) s;
        only = left_only (visiting c) s;
        kept = back_kept s (left_sets (visiting c) s backward (told c (OutOfChecks k s b made) e).below c.sets);
        runs_out = halts c s Checks b made k (told c (OutOfChecks k s b made) e).ends;
      }

  pub back_trials : (b s : ℕ) (k : Counts) → r ≡ OutOfTrials k s b → Halts (LookingBack backward) t w i a m (set_stored w i s) Trials b 0 k
  back_trials b s k e =
      record {
        same = left_plan (visiting c) s;
        only = left_only (visiting c) s;
        kept = back_kept s (left_sets (visiting c) s backward (told c (OutOfTrials k s b) e).below c.sets);
        runs_out = halts c s Trials b 0 k (told c (OutOfTrials k s b) e).ends;
      }

-- ---- looking ahead: a visit changes the live words of the boat's own pairs
module _ {t : Tables} {backward : Backward} {w : List ℕ} {i a x : ℕ} {m : Counts} {v : List ℕ} {r : Visited} (c : AfterVisit t (ahead_by_plan t) backward w i a x m v r)
    (q : KeptAhead backward t w i) (own : ChangedOnly (live_at (first_pair t.pairs i)) blames w v) where
  sane : Sane t
  sane = c.standing.sane

  -- slot b passed and is stored
  module _ (b s : ℕ) where
    abbrev stored : List ℕ
    stored = passed_words v i b s

    stored_other : (n : ℕ) → 129 ≤ n → n < live_at (first_pair t.pairs i) → word stored n ≡ word w n
    stored_other n lo hi = stored_after v b s n (few c) lo ∙ own.others n (inl hi)

    -- what writing whom to blame goes by
    pub ahead_blaming : Blaming t stored i
    ahead_blaming =
        record {
          sane = sane;
          boat = c.standing.boat;
          room = omega (arith, length-set (set (set v i b) (set_at i) s) (next_set_at i) 0, length-set (set v i b) (set_at i) s, length-set v i b, own.long, c.standing.room);
          firsts = firsts_stay t w stored sane.few_boats (λ n lo hi. stored_other n (omega arith) (omega arith)) q.firsts;
          chained = chained_stays t w stored sane (λ n lo hi. stored_other n (omega arith) (omega arith)) q.chained;
        }

    pub ahead_blames : BlamesKept backward t stored i
    ahead_blames =
        blames_kept t w stored sane backward i (λ n lo hi. stored_other n (omega arith) hi) (λ n lo hi. stored_after v b s n (few c) (omega arith) ∙ own.others n (inr lo)) q.blames

    -- and it is written
    module _ (k : Counts) (e : r ≡ Passed k s b) (right : LivesAfter t w i v (Passed k s b)) {u : List ℕ} (o : ChangedOnly (blame_at (live_at (first_pair t.pairs i))) used stored u)
        (blamed : BlamesKept backward t u (suc i)) where
      after : ChangedOnly lives used stored u
      after = only_widen (omega arith) (omega arith) o

      next_words : KeptAhead backward t u (suc i)
      next_words =
          let other : (n : ℕ) → 129 ≤ n → n < 4096 → word u n ≡ word w n = λ n lo hi. after.others n (inl hi) ∙ stored_other n lo (omega arith) in
          record {
            firsts = firsts_stay t w u sane.few_boats (λ n lo hi. other n (omega arith) (omega arith)) q.firsts;
            chained = chained_stays t w u sane (λ n lo hi. other n (omega arith) (omega arith)) q.chained;
            placed = passed_placed (visiting c) b s after t (slot_inside c b s k e after) q.placed;
            lives = rw (passed_plan (visiting c) b s after)
                (lives_stay t v u sane (take i w ++ (b ∷ [])) (suc i) (λ n lo hi. o.others n (inl (omega (arith, small))) ∙ stored_after v b s n (few c) (omega arith)) right);
            blames = blamed;
          }
        where
          small : first_pair t.pairs (suc i) ≤ 2016
          small = omega (arith, first_le t.pairs (suc i), sane.few_pairs)

      pub ahead_passed : MovesOn (LookingAhead backward) t w i a m u k
      ahead_passed =
          record {
            slot = b;
            placed = passed_plan (visiting c) b s after;
            only = passed_only (visiting c) b s after;
            kept = record { words = next_words; sets = passed_sets (visiting c) b s after backward (told c (Passed k s b) e).below c.sets };
            passes = passes c b s k e after;
          }

  ahead_kept : (s : ℕ) → SetsKept backward (set_stored v i s) i → Kept (LookingAhead backward) t (set_stored v i s) i
  ahead_kept s sets =
      let o = visiting c in
      let u = set_stored v i s in
      let later : (n : ℕ) → 128 ≤ n → word u n ≡ word v n = λ n lo. get_or-set_other v (64 + i) n s 0 (omega (arith, few c)) in
      let other : (n : ℕ) → 128 ≤ n → n < 4096 → word u n ≡ word w n = λ n lo hi. left_other o s n hi (omega (arith, few c)) in
      record {
        words = record {
          firsts = firsts_stay t w u sane.few_boats (λ n lo hi. other n (omega arith) (omega arith)) q.firsts;
          chained = chained_stays t w u sane (λ n lo hi. other n (omega arith) (omega arith)) q.chained;
          placed = placed_stays t w u i (λ n lo hi. left_other o s n (omega (arith, few c)) (omega (arith, few c))) q.placed;
          lives = rw (left_plan o s) (lives_stay t w u sane (take i w) i (λ n lo hi. later n (omega arith) ∙ own.others n (inl hi)) q.lives);
          blames = blames_kept t w u sane backward i (λ n lo hi. later n (omega arith) ∙ own.others n (inl hi)) (λ n lo hi. later n (omega arith) ∙ own.others n (inr lo)) q.blames;
        };
        sets = sets;
      }

  pub ahead_spent : (s : ℕ) (k : Counts) → r ≡ Spent k s → NoneLeft (LookingAhead backward) t w i a m (set_stored v i s) k
  ahead_spent s k e =
      record {
        same = left_plan (visiting c) s;
        only = left_only (visiting c) s;
        kept = ahead_kept s (left_sets (visiting c) s backward (told c (Spent k s) e).below c.sets);
        spends = spends c s k e;
      }

  pub ahead_checks : (b s made : ℕ) (k : Counts) → r ≡ OutOfChecks k s b made → Halts (LookingAhead backward) t w i a m (set_stored v i s) Checks b made k
  ahead_checks b s made k e =
      record {
        same = left_plan (visiting c) s;
        only = left_only (visiting c) s;
        kept = ahead_kept s (left_sets (visiting c) s backward (told c (OutOfChecks k s b made) e).below c.sets);
        runs_out = halts c s Checks b made k (told c (OutOfChecks k s b made) e).ends;
      }

  pub ahead_trials : (b s : ℕ) (k : Counts) → r ≡ OutOfTrials k s b → Halts (LookingAhead backward) t w i a m (set_stored v i s) Trials b 0 k
  ahead_trials b s k e =
      record {
        same = left_plan (visiting c) s;
        only = left_only (visiting c) s;
        kept = ahead_kept s (left_sets (visiting c) s backward (told c (OutOfTrials k s b) e).below c.sets);
        runs_out = halts c s Trials b 0 k (told c (OutOfTrials k s b) e).ends;
      }

-- ---- marking: a visit changes the boat's marks
-- words before those of the marks have changed
marks_stay : (w w' : List ℕ) → ChangedOnly 0 64 w w' → marks_of w' ≡ marks_of w
marks_stay w w' o =
    λ j.
    record {
      m = λ i a. cond (ltb i 64 && ltb a 64) (o.others (4096 + 64 * i + a) (inr (omega arith)) j) 0;
      b = λ i. cond (ltb i 64) (o.others (64 + i) (inr (omega arith)) j) 0;
    }

pub record AfterMarked (t : Tables) (w : List ℕ) (i a : ℕ) (m : Counts) (w' : List ℕ) (r : Visited) : Type 0 where
  pub standing : Standing t w i m
  pub kept : Kept Marking t w i
  pub visits : VisitsMarked t w i a m w' r
  pub only : ChangedOnly lives used w w'

module _ {t : Tables} {w : List ℕ} {i a : ℕ} {m : Counts} {w' : List ℕ} {r : Visited} (c : AfterMarked t w i a m w' r) where
  small : i < 64
  small = omega (arith, c.standing.boat, c.standing.sane.few_boats)

  marked_only : ChangedOnly 0 used w w'
  marked_only = only_widen (omega arith) (omega arith) c.only

  marked_plan : take i w' ≡ take i w
  marked_plan = only_take c.only i (omega (arith, small)) (omega (arith, small, c.standing.room))

  marked_kept : Kept Marking t w' i
  marked_kept =
      let few = c.standing.sane.few_boats in
      let o = c.only in
      let q = c.kept in
      record {
        indexed = indexed_stays t w w' few (same_before o (omega arith)) q.indexed;
        placed = placed_stays t w w' i (same_before o (omega (arith, small))) q.placed;
        none = λ k lo hi. o.others k (inl (omega arith)) ∙ q.none k lo hi;
        falls = λ j lo hi. rw (o.others (low_at (j + 1)) (inl (omega arith)), o.others (low_at j) (inl (omega arith))) (q.falls j lo hi);
      }

  seen : (y : Visited) → r ≡ y → VisitsMarked t w i a m w' y
  seen y e = subst (VisitsMarked t w i a m w') e c.visits

  pub marked_passed : (b u : ℕ) (k : Counts) → r ≡ Passed k u b → MovesOn Marking t w i a m (set w' i b) k
  marked_passed b u k e =
      let v = seen (Passed k u b) e in
      let o : ChangedOnly 0 64 w' (set w' i b) = only_set w' i b (omega arith) small in
      let long : i < length w' = omega (arith, small, c.only.long, c.standing.room) in
      let p : take (suc i) (set w' i b) ≡ take i w ++ (b ∷ []) = take-suc-set w' i b long ∙ ap (λ (l : List ℕ). l ++ (b ∷ [])) marked_plan in
      let y = marked_kept in
      record {
        slot = b;
        placed = p;
        only = only_trans marked_only (only_widen (omega arith) (omega arith) o);
        kept = record {
          indexed = indexed_stays t w' (set w' i b) c.standing.sane.few_boats (same_after o (omega arith)) y.indexed;
          placed = placed_set t w' i b long (in_size t w i b (omega (arith, small, c.standing.room)) v.inside) y.placed;
          none = λ h lo hi. o.others h (inr (omega arith)) ∙ y.none h lo hi;
          falls = λ j lo hi. rw (o.others (low_at (j + 1)) (inr (omega arith)), o.others (low_at j) (inr (omega arith))) (y.falls j (omega arith) hi);
        };
        passes = subst (λ (τ : Marks). Passes t (bm t) (take i w) a (marks_of w) m b τ k) (sym (marks_stay w' (set w' i b) o)) v;
      }

  pub marked_spent : (u : ℕ) (k : Counts) → r ≡ Spent k u → NoneLeft Marking t w i a m w' k
  marked_spent u k e = record { same = marked_plan; only = marked_only; kept = marked_kept; spends = seen (Spent k u) e }

  pub marked_checks : (b u made : ℕ) (k : Counts) → r ≡ OutOfChecks k u b made → Halts Marking t w i a m w' Checks b made k
  marked_checks b u made k e = record { same = marked_plan; only = marked_only; kept = marked_kept; runs_out = seen (OutOfChecks k u b made) e }

  pub marked_trials : (b u : ℕ) (k : Counts) → r ≡ OutOfTrials k u b → Halts Marking t w i a m w' Trials b 0 k
  marked_trials b u k e = record { same = marked_plan; only = marked_only; kept = marked_kept; runs_out = seen (OutOfTrials k u b) e }

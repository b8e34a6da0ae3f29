-- The words as a search begins with them: what preparing finds and leaves.
use mathlib.Core.Path.{◌≡◌, refl, ◌∙◌, fun_ext}
use mathlib.Core.Bool.{Bool, true, false, cond, ◌&&◌}
use mathlib.Core.List.{List, []}
use mathlib.Core.Logic.{inl, inr}
use Prim.Native.Nat.{ℕ, ◌+◌, ◌≤◌, ◌<◌}
use native.Mathlib.Omega.{arith}
use native.Mathlib.Decide.{dec_lt}
use lib.Dec.{ltb, eqb}
use lib.Pow.{pow_pos}
use borrow.Author.Tests.{lt-ltb, le-ltb}
use Rattle.problem.specs.Tables.{Tables, boats, bit}
use Rattle.problem.specs.Sane.{Sane}
use Rattle.methods.specs.Moves.{Forward}
use Rattle.methods.specs.BT.{looking_back}
use Rattle.methods.specs.BM.{no_marks, bm}
use Rattle.methods.specs.ByPlan.{ahead_by_plan}
use Rattle.words.specs.Places.{starts, index, marks, blames, used, low_at, mark_at, all_at, blame_at}
use Rattle.words.specs.Layout.{word, Zero, ChangedOnly, Placed, Indexed, Firsts, Chained}
use Rattle.words.specs.Links.{Linked}
use Rattle.words.specs.Sets.{members_of, set_words, SetsBelow}
use Rattle.words.proofs.Bits.{bit_zero}
use Rattle.words.proofs.ChangedOnly.{only_trans, only_widen}
use Rattle.words.proofs.Frames.{same_before, firsts_stay, chained_stays}
use Rattle.words.proofs.Lefts.{left_none}
use Rattle.visits.specs.declared.Backward.{Backward}
use Rattle.visits.specs.declared.Backward.TheVariants.{OneBack, BySets}
use Rattle.visits.specs.Visits.{steps_over, state}
use Rattle.marks.specs.Marks.{marks_of}
use Rattle.live_words.specs.Lives.{Lives, Blames}
use Rattle.live_words.specs.Kept.{BlamesKept}
use Rattle.live_words.proofs.Losses.{lost_none}
use Rattle.moves.specs.declared.Moves.TheVariants.{LookingBack, Marking, LookingAhead}
use Rattle.moves.specs.Memory.{SetsKept}
use Rattle.moves.specs.Prepared.{PreparedAhead, Prepared}

-- ---- for looking ahead: u has each boat's pairs, v where the live words stand too, and w' all slots
pub prepared_ahead : (t : Tables) (w u v w' : List ℕ) → Sane t → Firsts t u → ChangedOnly 192 384 w u → Chained t v → ChangedOnly 448 4096 u v → Lives t w' [] 0 →
    ChangedOnly 4032 4096 v w' → PreparedAhead t w w'
prepared_ahead t w u v w' s f o c p l q =
    record {
      only = only_trans (only_widen (omega arith) (omega arith) o) (only_trans (only_widen (omega arith) (omega arith) p) (only_widen (omega arith) (omega arith) q));
      firsts = firsts_stay t v w' s.few_boats (same_before q (omega arith)) (firsts_stay t u v s.few_boats (same_before p (omega arith)) f);
      chained = chained_stays t v w' s (same_before q (omega arith)) c;
      lives = l;
    }

-- ---- words that are 0 hold no set and no mark, and blame nobody
no_sets : (w : List ℕ) → word w 64 ≡ 0 → members_of (set_words w 0 (word w 64)) ≡ (λ k j. false)
no_sets w e = fun_ext (λ k. fun_ext (λ j. rw (e, le-ltb k 0 (omega arith)) (by (eqb k 0) j)))
  where
    by : (x : Bool) (j : ℕ) → bit (cond x 0 0) j ≡ false
    by true j = bit_zero j
    by false j = bit_zero j

no_marks_lem : (w : List ℕ) → ((i : ℕ) → i < 64 → word w (low_at i) ≡ 0) → ((i a : ℕ) → i < 64 → a < 64 → word w (mark_at i a) ≡ 0) → marks_of w ≡ no_marks
no_marks_lem w b m = λ d. record { m = fun_ext (λ i. fun_ext (λ a. mark i a (dec_lt i 64) (dec_lt a 64))) d; b = fun_ext (λ i. low i (dec_lt i 64)) d }
  where
    mark : (i a : ℕ) → Dec (i < 64) → Dec (a < 64) → cond (ltb i 64 && ltb a 64) (word w (mark_at i a)) 0 ≡ 0
    mark i a (yes y) (yes z) = rw (lt-ltb i 64 y, lt-ltb a 64 z) (m i a y z)
    mark i a (yes y) (no z) = rw (lt-ltb i 64 y, le-ltb a 64 (omega arith))
    mark i a (no y) z = rw (le-ltb i 64 (omega arith))

    low : (i : ℕ) → Dec (i < 64) → cond (ltb i 64) (word w (low_at i)) 0 ≡ 0
    low i (yes y) = rw (lt-ltb i 64 y) (b i y)
    low i (no y) = rw (le-ltb i 64 (omega arith))

none_placed : (t : Tables) (w : List ℕ) → Placed t w 0
none_placed t w h l = absurd (omega arith)

none_below : (w : List ℕ) → word w 64 ≡ 0 → SetsBelow w 0
none_below w e k l = let z : k ≡ 0 = omega arith in rw (z, e) (pow_pos 0)

none_blamed : (t : Tables) (w : List ℕ) → boats t ≤ 64 → Zero blames used w → Blames t w 0
none_blamed t w few e k j l lj = let z : k ≡ 0 = omega arith in rw (z, left_none t.pairs j, e (blame_at (all_at j)) (omega arith) (omega arith)) (lost_none t w j)

-- ---- over a forward move that remembers nothing, from words that are all 0
module _ (backward : Backward) {w w' : List ℕ} (zero : Zero 0 used w) (o : ChangedOnly starts used w w') where
  empty : word w' 64 ≡ 0
  empty = o.others 64 (inl (omega arith)) ∙ zero 64 (omega arith) (omega arith)

  no_sets_kept : SetsKept backward w' 0
  no_sets_kept = by backward
    where
      by : (x : Backward) → SetsKept x w' 0
      by OneBack = tt
      by BySets = none_below w' empty

  fresh_sets : (t : Tables) (F : Forward (Unit {0})) → state backward (set_words w' 0 (word w' 64)) ≡ (steps_over t F backward).start
  fresh_sets t F = by backward
    where
      by : (x : Backward) → state x (set_words w' 0 (word w' 64)) ≡ (steps_over t F x).start
      by OneBack = refl
      by BySets = λ d. record { sets = no_sets w' empty d; rest = tt }

  pub prepared_back : (t : Tables) → Linked t w' → Prepared (LookingBack backward) t w w'
  prepared_back t found =
      record {
        kept = record { words = record { linked = found; placed = none_placed t w' }; sets = no_sets_kept };
        fresh = fresh_sets t (looking_back t);
        only = only_widen (omega arith) (omega arith) o;
      }

  pub prepared_looking_ahead : (t : Tables) → boats t ≤ 64 → PreparedAhead t w w' → Prepared (LookingAhead backward) t w w'
  prepared_looking_ahead t few p =
      record {
        kept = record {
          words = record { firsts = p.firsts; chained = p.chained; placed = none_placed t w'; lives = p.lives; blames = no_blames backward };
          sets = no_sets_kept;
        };
        fresh = fresh_sets t (ahead_by_plan t);
        only = only_widen (omega arith) (omega arith) o;
      }
    where
      no_blames : (x : Backward) → BlamesKept x t w' 0
      no_blames OneBack = tt
      no_blames BySets = none_blamed t w' few (λ k lo hi. p.only.others k (inr (omega arith)) ∙ zero k (omega arith) hi)

-- ---- for marking
module _ (t : Tables) {w w' : List ℕ} (zero : Zero 0 used w) (found : Indexed t w') (o : ChangedOnly index marks w w') where
  still : (k : ℕ) → k < 512 → word w' k ≡ 0
  still k l = o.others k (inl l) ∙ zero k (omega arith) (omega arith)

  later : (k : ℕ) → 4096 ≤ k → k < 8192 → word w' k ≡ 0
  later k lo hi = o.others k (inr lo) ∙ zero k (omega arith) hi

  pub prepared_marking : Prepared Marking t w w'
  unfolding bm
  prepared_marking =
      record {
        kept = record { indexed = found; placed = none_placed t w'; none = λ k lo hi. still k (omega arith); falls = λ j lo hi. omega (arith, still (low_at (j + 1)) (omega arith)) };
        fresh = no_marks_lem w' (λ i l. still (low_at i) (omega arith)) (λ i a li la. later (mark_at i a) (omega arith) (omega arith));
        only = only_widen (omega arith) (omega arith) o;
      }

-- Back to the deepest boat to blame: what the words of the sets then are is what the methods that jump remember.
use mathlib.Core.Path.{◌≡◌, refl, sym, ap, ◌∙◌, subst, fun_ext}
use mathlib.Core.Bool.{Bool, true, false, ◌||◌}
use mathlib.Core.List.{List}
use mathlib.Core.Logic.{inl}
use mathlib.Core.Option.{Option}
use Prim.Native.Nat.{ℕ, suc, ◌^◌, ◌≤◌, ◌<◌}
use native.Mathlib.Omega.{arith}
use native.Mathlib.Decide.{dec_le, dec_lt, ℕ_discrete}
use native.Mathlib.Nat.{le_refl}
use lib.Bits.{bit_or, or_lt}
use lib.ListN.{length, take, set}
use lib.Pow.{pow_mono}
use lib.Seq.{length-take-le, get_or-set_same}
use borrow.Author.Tests.{eq-eqb, ne_eqb, lt-ltb, le-ltb, le-leb, lt-leb}
use Rattle.problem.specs.Tables.{Tables, boats, bit}
use Rattle.methods.specs.Machine.{nowhere, back}
use Rattle.methods.specs.Moves.{Boats, Forward}
use Rattle.methods.specs.BT.{looking_back}
use Rattle.methods.specs.CBJ.{Sets, deepest, handed_down, jump, to_blame}
use Rattle.methods.specs.ByPlan.{blamers_of, ahead_by_plan}
use Rattle.words.specs.Places.{set_at, last_at, blame_at}
use Rattle.words.specs.Layout.{word, left_at, ChangedOnly}
use Rattle.words.specs.Sets.{Deepest, HandedDown, members_of, set_words, SetsBelow}
use Rattle.words.proofs.Bits.{bit_zero, bit_or_lem, deepest_is, deepest_empty}
use Rattle.words.proofs.ChangedOnly.{only_refl, only_set, only_widen, only_take}
use Rattle.visits.specs.declared.Backward.TheVariants.{BySets}
use Rattle.std.specs.Prelude.{Option as Goes, Some, None}
use Rattle.visits.specs.Visits.{State, steps_over, state}
use Rattle.looking_back.specs.Kept.{KeptBack}
use Rattle.live_words.specs.Kept.{KeptAhead}
use Rattle.live_words.proofs.Live.{blame_blamers}
use Rattle.moves.specs.declared.Moves.TheVariants.{LookingBack, LookingAhead}
use Rattle.unlabelling.specs.Unlabels.{Leaving, Unlabels}
use Rattle.unlabelling.specs.Jumps.{HandsDown, JumpsBack}
use Rattle.unlabelling.proofs.Backwards.{left_few, left_long, left_plan, back_kept, ahead_kept}

or_none : (a : Bool) → (a || false) ≡ a
or_none true = refl
or_none false = refl

-- what a method that jumps remembers at boat i
abbrev held : List ℕ → ℕ → State BySets
held w i = state BySets (set_words w i (word w (set_at i)))

-- ---- over any forward move, by a word whose members are to blame
module _ (t : Tables) (F : Forward (Unit {0})) (w : List ℕ) (i blamed : ℕ) (inside : i < boats t) (long : i ≤ length w)
    (all : (j : ℕ) → bit blamed j ≡ (bit (word w (set_at i)) j || F.blamers tt (take i w) j)) where
  to_blame_lem : to_blame F (held w i) (take i w) ≡ (λ j. bit blamed j)
  to_blame_lem = fun_ext (λ j. rw (length-take-le i w long, eq-eqb i i refl) (sym (all j)))

  unlabel_is : (steps_over t F BySets).unlabel (held w i) (take i w) ≡ jump F (held w i) i (λ j. bit blamed j) (deepest (boats t) (λ j. bit blamed j))
  unlabel_is =
      ap (λ (s : Boats). jump F (held w i) (length (take i w)) s (deepest (boats t) s)) to_blame_lem
      ∙ ap (λ (n : ℕ). jump F (held w i) n (λ j. bit blamed j) (deepest (boats t) (λ j. bit blamed j))) (length-take-le i w long)

  nobody_left : blamed ≡ 0 → (steps_over t F BySets).unlabel (held w i) (take i w) ≡ nowhere
  nobody_left e =
      unlabel_is
      ∙ ap (λ (x : Option ℕ). jump F (held w i) i (λ j. bit blamed j) x) (deepest_empty (boats t) (λ j. bit blamed j) (λ k lk. rw e (bit_zero k)))

  module _ (w' : List ℕ) (h : ℕ) (d : HandsDown w i blamed w' h) where
    sets_are : handed_down (members_of (set_words w i (word w (set_at i)))) i h (λ j. bit blamed j) ≡ members_of (set_words w' h (word w' (set_at h)))
    sets_are = fun_ext (λ k. fun_ext (λ j. by k j (dec_lt k h) (ℕ_discrete k h) (dec_le k i)))
      where
        lh : h < i
        lh = d.below

        by : (k j : ℕ) → Dec (k < h) → Dec (k ≡ h) → Dec (k ≤ i) →
            handed_down (members_of (set_words w i (word w (set_at i)))) i h (λ j. bit blamed j) k j ≡ members_of (set_words w' h (word w' (set_at h))) k j
        by k j (yes y) x z =
            rw (ne_eqb k h (omega arith), le-ltb h k (omega arith), ne_eqb k i (omega arith), lt-ltb k i (omega arith), lt-ltb k h y, d.only.others (set_at k) (inl (omega arith)))
        by k j (no y) (yes e) z = rw (e, eq-eqb h h refl, ne_eqb h i (omega arith), lt-ltb h i lh) (sym (d.handed.members j))
        by k j (no y) (no n) (yes z) = rw (ne_eqb k h n, lt-ltb h k (omega arith), le-ltb k h (omega arith), le-leb k i z) (sym (bit_zero j))
        by k j (no y) (no n) (no z) =
            rw (ne_eqb k h n, lt-ltb h k (omega arith), le-ltb k h (omega arith), lt-leb k i (omega arith), ne_eqb k i (omega arith), le-ltb k i (omega arith))

    goes_back : (steps_over t F BySets).unlabel (held w i) (take i w) ≡ back h (held w' h)
    goes_back =
        let lh = d.below in
        unlabel_is
        ∙ ap (λ (x : Option ℕ). jump F (held w i) i (λ j. bit blamed j) x)
        (deepest_is (boats t) h (λ j. bit blamed j) (omega arith) d.deepest.member (λ k lk lki. d.deepest.above k lk))
        ∙ ap (λ (s : Sets). back h (record { sets = s; rest = tt })) sets_are

-- ---- what is known of the words after
module _ {w w' : List ℕ} {i blamed h : ℕ} (few : i < 64) (enough : 8192 ≤ length w) (d : HandsDown w i blamed w' h) where
  beside : ChangedOnly 64 128 w w'
  beside = let lh = d.below in only_widen (omega arith) (omega arith) d.only

  within : ChangedOnly 0 8192 w w'
  within = only_widen (omega arith) (omega arith) beside

  plan_same : take (suc h) w' ≡ take (suc h) w
  plan_same = let lh = d.below in only_take beside (suc h) (omega arith) (omega arith)

  below_after : SetsBelow w i → SetsBelow w' h
  below_after l k lk = by (ℕ_discrete k h)
    where
      lh : h < i
      lh = d.below

      by : Dec (k ≡ h) → word w' (set_at k) < 2 ^ k
      by (yes e) = rw e d.handed.below
      by (no n) = rw (d.only.others (set_at k) (inl (omega arith))) (l k (omega arith))

-- ---- the code's jump
-- the deepest of a set of boats below i
pub deepest_below : {s i h : ℕ} → s < 2 ^ i → Deepest s h → h < i
deepest_below {s} {i} {h} l d = by (dec_lt h i)
  where
    by : Dec (h < i) → h < i
    by (yes y) = y
    by (no n) = let m : 2 ^ i ≤ 2 ^ h = pow_mono (omega arith) in absurd (omega (arith, d.low))

pub hands_down : (w : List ℕ) {i blamed h u : ℕ} → i < 64 → 8192 ≤ length w → blamed < 2 ^ i → Deepest blamed h → HandedDown blamed (word w (set_at h)) h u →
    HandsDown w i blamed (set w (set_at h) u) h
hands_down w {i = i} {blamed = blamed} {h = h} {u = u} few enough l d s =
    let lh : h < i = deepest_below l d in
    record {
      deepest = d;
      below = lh;
      handed = subst (λ (v : ℕ). HandedDown blamed (word w (set_at h)) h v) (sym (get_or-set_same w (set_at h) u 0 (omega arith))) s;
      only = only_set w (set_at h) u (omega arith) (omega arith);
    }

-- the boats to blame, by the word of the set and those that the forward move blames
module _ {t : Tables} {w : List ℕ} {i : ℕ} (g : Leaving t w i) where
  -- ---- looking back: nobody else
  pub back_by_sets : KeptBack t w i → SetsBelow w i → (w' : List ℕ) (r : Goes ℕ) → JumpsBack w i (word w (set_at i)) w' r → Unlabels (LookingBack BySets) t w i w' r
  unfolding looking_back
  back_by_sets q l w' None d =
      record {
        only = rw d.1 (only_refl _ _ w);
        goes = nobody_left t (looking_back t) w i (word w (set_at i)) g.boat (left_long g) (λ j. sym (or_none (bit (word w (set_at i)) j))) d.0;
      }
  back_by_sets q l w' (Some h) d =
      record {
        below = d.below;
        same = plan_same (left_few g) g.room d;
        only = within (left_few g) g.room d;
        kept = record { words = back_kept g (beside (left_few g) g.room d) d.below q; sets = below_after (left_few g) g.room d l };
        goes = goes_back t (looking_back t) w i (word w (set_at i)) g.boat (left_long g) (λ j. sym (or_none (bit (word w (set_at i)) j))) w' h d;
      }

  -- ---- looking ahead: and those that struck a slot of the boat, which stand beside its last live word
  module _ (q : KeptAhead BySets t w i) (l : SetsBelow w i) where
    abbrev blamed : ℕ
    blamed = bit_or (word w (set_at i)) (word w (blame_at (word w (last_at i))))

    beside_last : word w (blame_at (word w (last_at i))) ≡ word w (blame_at (left_at t.pairs i i))
    beside_last = ap (λ (n : ℕ). word w (blame_at n)) (q.chained.last i g.boat)

    pub blamed_below : blamed < 2 ^ i
    blamed_below = or_lt i _ _ (l i (le_refl i)) (rw beside_last (q.blames i i (le_refl i) g.boat).below)

    pub all_blamed : ((k : ℕ) → word w k < 2 ^ 64) → (j : ℕ) → bit blamed j ≡ (bit (word w (set_at i)) j || (ahead_by_plan t).blamers tt (take i w) j)
    unfolding ahead_by_plan
    all_blamed fit j =
        let e = left_plan g in
        bit_or_lem (word w (set_at i)) (word w (blame_at (word w (last_at i)))) j
        ∙ ap (λ (b : Bool). bit (word w (set_at i)) j || b)
        (ap (λ (n : ℕ). bit n j) beside_last
        ∙ blame_blamers t w (take i w) i i e (le_refl i) g.boat (g.sane.few_slots i g.boat) fit q.lives q.blames j
        ∙ ap (λ (n : ℕ). blamers_of t (take i w) n j) (sym e))

    module _ (among : ℕ) (all : (j : ℕ) → bit among j ≡ (bit (word w (set_at i)) j || (ahead_by_plan t).blamers tt (take i w) j)) where
      pub ahead_by_sets : (w' : List ℕ) (r : Goes ℕ) → JumpsBack w i among w' r → Unlabels (LookingAhead BySets) t w i w' r
      ahead_by_sets w' None d =
          record {
            only = rw d.1 (only_refl _ _ w);
            goes = nobody_left t (ahead_by_plan t) w i among g.boat (left_long g) all d.0;
          }
      ahead_by_sets w' (Some h) d =
          record {
            below = d.below;
            same = plan_same (left_few g) g.room d;
            only = within (left_few g) g.room d;
            kept = record { words = ahead_kept g (beside (left_few g) g.room d) d.below q; sets = below_after (left_few g) g.room d l };
            goes = goes_back t (ahead_by_plan t) w i among g.boat (left_long g) all w' h d;
          }

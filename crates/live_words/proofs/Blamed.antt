-- The boats to blame, written beside the live words of boat i's pairs, one after the other.
use mathlib.Core.Path.{◌≡◌, refl, sym, ap, ◌∙◌, subst}
use mathlib.Core.Logic.{◌⊎◌, inl, inr}
use mathlib.Core.Bool.{Bool, true, false, not}
use mathlib.Core.List.{List}
use Prim.Native.Nat.{ℕ, suc, ◌+◌, ◌≤◌, ◌<◌}
use native.Mathlib.Omega.{arith}
use native.Mathlib.Decide.{ℕ_discrete}
use native.Mathlib.Nat.{le_refl, eq-or-lt_of_le}
use lib.Dec.{eqb}
use lib.ListN.{set}
use lib.Seq.{get_or-set_same, get_or-set_other}
use borrow.Author.Tests.{eqb-true, eqb-false}
use Rattle.problem.specs.Tables.{Tables, boats, higher, is_listed}
use Rattle.words.specs.Places.{used, start_at, end_at, prev_at, live_at, blame_at}
use Rattle.words.specs.Layout.{word, ChangedOnly, first_pair, left_at}
use Rattle.words.specs.Sets.{WithMemberIf}
use Rattle.words.proofs.ChangedOnly.{only_refl, only_trans, only_set}
use Rattle.words.proofs.Firsts.{first_le, first_next}
use Rattle.words.proofs.Pairs.{pair_listed, listed_pair}
use Rattle.words.proofs.Lefts.{left_unlisted, left_before, left_within}
use Rattle.words.proofs.Chains.{left_own, prev_own}
use Rattle.live_words.specs.Lives.{left_word, LostAt, Blames}
use Rattle.live_words.specs.Kept.{Blaming}
use Rattle.live_words.proofs.Losses.{lost_more, lost_same, lost_stays}

-- boat i's pairs end at pair e, and those before pair k are done
pub record BlamedTo (t : Tables) (i : ℕ) (w₀ w : List ℕ) (e k : ℕ) : Type 0 where
  pub ends : e ≡ first_pair t.pairs (suc i)
  pub few : e ≤ 2016
  pub from : first_pair t.pairs i ≤ k
  pub up_to : k ≤ e
  pub before : (q : ℕ) → first_pair t.pairs i ≤ q → q < e → word w (prev_at q) < live_at (first_pair t.pairs i)
  pub done : (q : ℕ) → first_pair t.pairs i ≤ q → q < k → LostAt t w₀ (suc i) (higher t.pairs q) (word w (blame_at (live_at q)))
  pub only : ChangedOnly (blame_at (live_at (first_pair t.pairs i))) used w₀ w

-- the word before that of one of boat i's pairs stands below those of boat i
prev_below : {t : Tables} {i : ℕ} {w : List ℕ} → Blaming t w i → (q : ℕ) → first_pair t.pairs i ≤ q → q < first_pair t.pairs (suc i) →
    word w (prev_at q) < live_at (first_pair t.pairs i)
prev_below {t} {i} g q lo hi =
    omega (arith, prev_own t g.sane g.chained i q lo hi, left_before t g.sane i i (higher t.pairs q) (le_refl i) (g.sane.boats_named q (pair_listed t.pairs g.sane.rising i q lo hi)))

pub blamed_none : {t : Tables} {i : ℕ} {w : List ℕ} → Blaming t w i → BlamedTo t i w w (word w (end_at i)) (word w (start_at i))
blamed_none {t} {i} {w} g =
    let first : word w (start_at i) ≡ first_pair t.pairs i = g.firsts.pair_from i (omega (arith, g.boat)) in
    let next : word w (end_at i) ≡ first_pair t.pairs (suc i) = ap (word w) (omega arith) ∙ g.firsts.pair_from (suc i) g.boat in
    record {
      ends = next;
      few = omega (arith, first_le t.pairs (suc i), g.sane.few_pairs);
      from = omega arith;
      up_to = omega (arith, first_next t.pairs i);
      before = λ q lo hi. prev_below g q lo (omega arith);
      done = λ q lo hi. absurd (omega arith);
      only = only_refl _ _ w;
    }

module _ {t : Tables} {i : ℕ} {w₀ w : List ℕ} {e k : ℕ} (g : Blaming t w₀ i) (b : Blames t w₀ i) (f : BlamedTo t i w₀ w e k) where
  -- the words before those of boat i's pairs are as they were
  still : (n : ℕ) → n < blame_at (live_at (first_pair t.pairs i)) → word w n ≡ word w₀ n
  still n l = f.only.others n (inl l)

  -- ---- at pair k
  module _ (l : k < e) where
    abbrev j : ℕ
    j = higher t.pairs k

    inside : k < first_pair t.pairs (suc i)
    inside = omega (arith, f.ends)

    named : j < boats t
    named = g.sane.boats_named k (pair_listed t.pairs g.sane.rising i k f.from inside)

    before_is : word w (prev_at k) ≡ left_at t.pairs i j
    before_is = still (prev_at k) (omega (arith, f.few)) ∙ prev_own t g.sane g.chained i k f.from inside

    was : LostAt t w₀ i j (word w (blame_at (word w (prev_at k))))
    was =
        subst (λ (v : ℕ). LostAt t w₀ i j v) (sym (still _ (omega (arith, f.before k f.from l)) ∙ ap (λ (n : ℕ). word w₀ (blame_at n)) before_is))
        (b i j (le_refl i) named)

    found : word w (word w (prev_at k)) ≡ left_word t w₀ i j
    found = still _ (omega (arith, f.before k f.from l)) ∙ ap (word w₀) before_is

    leaves : word w (live_at k) ≡ left_word t w₀ (suc i) j
    leaves = still (live_at k) (omega (arith, f.few)) ∙ ap (word w₀) (sym (left_own t g.sane i k f.from inside))

    blamed_by : {v : ℕ} → LostAt t w₀ (suc i) j v → BlamedTo t i w₀ (set w (blame_at (live_at k)) v) e (k + 1)
    blamed_by {v} lost =
        record {
          ends = f.ends;
          few = f.few;
          from = omega (arith, f.from);
          up_to = omega arith;
          before = λ q lo hi. rw (get_or-set_other w (blame_at (live_at k)) (prev_at q) v 0 (omega (arith, f.few))) (f.before q lo hi);
          done = λ q lo hi. by q lo hi (ℕ_discrete q k);
          only = only_trans f.only (only_set w (blame_at (live_at k)) v (omega (arith, f.from)) (omega (arith, f.few)));
        }
      where
        by : (q : ℕ) → first_pair t.pairs i ≤ q → q < k + 1 → Dec (q ≡ k) → LostAt t w₀ (suc i) (higher t.pairs q) (word (set w (blame_at (live_at k)) v) (blame_at (live_at q)))
        by q lo hi (yes s) = rw (s, get_or-set_same w (blame_at (live_at k)) v 0 (omega (arith, f.few, g.room, f.only.long))) lost
        by q lo hi (no ne) = rw (get_or-set_other w (blame_at (live_at k)) (blame_at (live_at q)) v 0 (omega arith)) (f.done q lo (omega arith))

    -- the word before is the same: boat i struck no slot
    abbrev same : Bool
    same = eqb (word w (word w (prev_at k))) (word w (live_at k))

    pub blamed_next : (r : ℕ) → WithMemberIf (not same) (word w (blame_at (word w (prev_at k)))) i r → BlamedTo t i w₀ (set w (blame_at (live_at k)) r) e (k + 1)
    blamed_next r m = blamed_by (by same refl m)
      where
        by : (b : Bool) → same ≡ b → WithMemberIf (not b) (word w (blame_at (word w (prev_at k)))) i r → LostAt t w₀ (suc i) j r
        by true s z = rw z (lost_same t w₀ j was (sym found ∙ eqb-true _ _ s ∙ leaves))
        by false s z = lost_more t w₀ j was (λ x. eqb-false _ _ s (found ∙ x ∙ sym leaves)) z

  -- ---- at the end
  pub blamed_all : e ≤ k → Blames t w (suc i)
  blamed_all le h x lh lx = lost_stays (λ n ln. still _ (omega (arith, left_within t g.sane n x lx))) (by (eq-or-lt_of_le lh))
    where
      own : (y : Bool) → is_listed t.pairs i x ≡ y → LostAt t w₀ (suc i) x (word w (blame_at (left_at t.pairs (suc i) x)))
      own true s =
          let (q, lo, hi, z) = listed_pair t.pairs g.sane.rising i x s in
          subst (λ (n : ℕ). LostAt t w₀ (suc i) n (word w (blame_at (left_at t.pairs (suc i) n)))) z (rw (left_own t g.sane i q lo hi) (f.done q lo (omega (arith, f.ends))))
      own false s =
          rw (left_unlisted t.pairs x i s, still (blame_at (left_at t.pairs i x)) (omega (arith, left_before t g.sane i i x (le_refl i) lx)))
          (lost_same t w₀ x (b i x (le_refl i) lx) (ap (word w₀) (sym (left_unlisted t.pairs x i s))))

      by : (h ≡ suc i) ⊎ (h < suc i) → LostAt t w₀ h x (word w (blame_at (left_at t.pairs h x)))
      by (inl s) = rw s (own (is_listed t.pairs i x) refl)
      by (inr l) = rw (still (blame_at (left_at t.pairs h x)) (omega (arith, left_before t g.sane h i x (omega arith) lx))) (b h x (omega arith) lx)

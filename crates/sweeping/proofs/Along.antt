-- On the way over the pairs of boat i: what holds before each of them, at the first, and at the end.
use mathlib.Core.Path.{◌≡◌, refl, sym, ap, ◌∙◌}
use mathlib.Core.Bool.{true, false, ◌&&◌}
use mathlib.Core.List.{List, [], append-nil}
use mathlib.Core.Option.{none}
use mathlib.Mathlib.Data.Bool.Basic.{eq-false_of_not-eq-true}
use Prim.Native.Nat.{ℕ, suc, ◌+◌, ◌-◌, ◌≤◌, ◌<◌}
use native.Mathlib.Omega.{arith}
use native.Mathlib.Decide.{dec_lt}
use native.Mathlib.Nat.{le_refl}
use lib.ListN.{length, take}
use lib.Seq.{length-take-le}
use Rattle.problem.specs.Tables.{Tables, boats, size, listed, higher, is_listed, start, bit}
use Rattle.problem.proofs.Starts.{start_within, start_few}
use Rattle.events.specs.Events.{Event, trials_of, trials}
use Rattle.events.specs.declared.Counts.{Counts}
use Rattle.events.specs.Counts.{Fits, Makes}
use Rattle.events.proofs.Leading.{makes_none, makes_eq}
use Rattle.methods.specs.Choices.{may_stand}
use Rattle.methods.specs.FC.{Swept}
use Rattle.methods.specs.ByPlan.{open_sweep}
use Rattle.words.specs.Places.{prev_at, live_at, blames}
use Rattle.words.specs.Layout.{word, ChangedOnly, first_pair}
use Rattle.words.proofs.Firsts.{first_le, first_same}
use Rattle.words.proofs.Pairs.{pair_listed, listed_pair}
use Rattle.words.proofs.Chains.{left_own, prev_own}
use Rattle.words.proofs.Lefts.{left_before}
use Rattle.words.proofs.ChangedOnly.{only_refl}
use Rattle.live_words.specs.Lives.{left_word}
use Rattle.sweeping.specs.Sweeps.{Sweepable, Owns, sweep_of, SweepsClear}
use Rattle.sweeping.specs.declared.Own.{Own}
use Rattle.sweeping.proofs.Sweeping.{behind, sweep_past, sweep_end}

-- before pair k, whose row is word `at`: from the words w₀ and the counts m to w and n, with the boats below `next` gone over. (Where the boat's rows end, and where the words before stand, is said of each pair, so that each index is seen to be within bounds.)
pub record Along (t : Tables) (w₀ : List ℕ) (i a : ℕ) (m : Counts) (w : List ℕ) (k at : ℕ) (n : Counts) : Type 0 where
  pub from : first_pair t.pairs i ≤ k
  pub few : first_pair t.pairs (suc i) ≤ 2016
  pub place : at ≡ start t.sizes t.pairs k + a
  pub in_rows : (q : ℕ) → first_pair t.pairs i ≤ q → q < first_pair t.pairs (suc i) → start t.sizes t.pairs q + a < length t.rows
  pub before : (q : ℕ) → first_pair t.pairs i ≤ q → q < first_pair t.pairs (suc i) → word w (prev_at q) < live_at (first_pair t.pairs i)
  pub next : ℕ
  pub within : next ≤ boats t
  pub gone : (q : ℕ) → first_pair t.pairs i ≤ q → q < k → higher t.pairs q < next
  pub ahead : (q : ℕ) → k ≤ q → q < first_pair t.pairs (suc i) → next ≤ higher t.pairs q
  pub stay : (q b : ℕ) → first_pair t.pairs i ≤ q → q < k → b < 64 →
      bit (word w (live_at q)) b ≡ (bit (left_word t w₀ i (higher t.pairs q)) b && may_stand t i a (higher t.pairs q) b)
  pub only : ChangedOnly (live_at (first_pair t.pairs i)) blames w₀ w
  pub made : List Event
  pub none : trials made ≡ 0
  pub split : sweep_of t (take i w₀) a ≡ behind made (open_sweep t (take i w₀) a next (boats t - next))
  pub makes : Makes m made n

module _ {t : Tables} {w₀ : List ℕ} {i a : ℕ} (g : Sweepable t w₀ i a) where
  pub plan_long : length (take i w₀) ≡ i
  plan_long = length-take-le i w₀ (omega (arith, g.sane.few_boats, g.boat, g.room))

  -- ---- at one of the boat's own pairs: its row lies within the rows, and the word before it stands below those of the boat
  module _ (q : ℕ) (lo : first_pair t.pairs i ≤ q) (hi : q < first_pair t.pairs (suc i)) where
    is : q < listed t.pairs
    is = pair_listed t.pairs g.sane.rising i q lo hi

    row_in : start t.sizes t.pairs q + a < length t.rows
    row_in =
        omega (arith, ap (size t.sizes) (first_same t.pairs g.sane.rising i q lo hi), start_within t.sizes t.pairs q is, g.sane.row_words, g.slot)

    prev_below : word w₀ (prev_at q) < live_at (first_pair t.pairs i)
    prev_below =
        omega (arith, prev_own t g.sane g.chained i q lo hi, left_before t g.sane i i (higher t.pairs q) (le_refl i) (g.sane.boats_named q is))

  -- ---- at the first of the boat's own pairs
  module _ {own : Own} (o : Owns t i own) where
    pub row_few : own.row + a < 129088
    row_few =
        omega (arith, o.row, start_few t g.sane (first_pair t.pairs i) (first_le t.pairs i), first_le t.pairs i, g.sane.few_pairs, g.sane.few_slots i g.boat, g.slot)

    pub begins : (m : Counts) → Fits m → Along t w₀ i a m w₀ own.first (own.row + a) m
    unfolding trials_of
    begins m f =
        rw o.first
        (record {
          from = le_refl _;
          few = omega (arith, first_le t.pairs (suc i), g.sane.few_pairs);
          place = ap (λ (x : ℕ). x + a) o.row;
          in_rows = row_in;
          before = prev_below;
          next = suc i;
          within = g.boat;
          gone = λ q lo hi. absurd (omega arith);
          ahead = λ q lo hi.
              omega (arith, first_same t.pairs g.sane.rising i q lo hi, g.sane.lower_first q (pair_listed t.pairs g.sane.rising i q lo hi));
          stay = λ q b lo hi lb. absurd (omega arith);
          only = only_refl _ _ w₀;
          made = [];
          none = refl;
          split = rw plan_long refl;
          makes = makes_none m f;
        })

  module _ {m : Counts} {w : List ℕ} {k at : ℕ} {n : Counts} (l : Along t w₀ i a m w k at n) where
    -- from `next` on, a boat below the higher boats of all pairs that are left is not listed
    pub gap : (x : ℕ) → l.next ≤ x → ((q : ℕ) → k ≤ q → q < first_pair t.pairs (suc i) → x < higher t.pairs q) → is_listed t.pairs (length (take i w₀)) x ≡ false
    gap x lx f = rw plan_long (eq-false_of_not-eq-true (λ e. no_pair (listed_pair t.pairs g.sane.rising i x e)))
      where
        no_pair : (q : ℕ) × (first_pair t.pairs i ≤ q) × (q < first_pair t.pairs (suc i)) × (higher t.pairs q ≡ x) → ⊥
        no_pair s = side (dec_lt s.0 k)
          where
            side : Dec (s.0 < k) → ⊥
            side (yes y) = omega (arith, l.gone s.0 s.1 y)
            side (no ny) = omega (arith, f s.0 (omega arith) s.2)

    -- no pair is left
    pub ends : first_pair t.pairs (suc i) ≤ k → SweepsClear t w₀ (take i w₀) a m w n
    ends h =
        record {
          clear = ap (λ (x : Swept). x.emptied) over;
          makes = makes_eq (sym (ap (λ (x : Swept). x.checks) over ∙ append-nil l.made)) l.makes;
          stays = rw plan_long (λ j b li lj lb e. stays j b e lb (listed_pair t.pairs g.sane.rising i j e));
        }
      where
        over : sweep_of t (take i w₀) a ≡ behind l.made (record { checks = []; emptied = none })
        over =
            l.split
            ∙ ap (behind l.made)
            (sweep_past t (take i w₀) a l.next (boats t) l.within (le_refl (boats t)) (λ x lx hx. gap x lx (λ q lq hq. absurd (omega arith)))
            ∙ sweep_end t (take i w₀) a)

        stays : (j b : ℕ) → is_listed t.pairs i j ≡ true → b < 64 →
            (q : ℕ) × (first_pair t.pairs i ≤ q) × (q < first_pair t.pairs (suc i)) × (higher t.pairs q ≡ j) →
            bit (left_word t w (suc i) j) b ≡ (bit (left_word t w₀ i j) b && may_stand t i a j b)
        stays j b e lb s =
            ap (λ (x : ℕ). bit (word w x) b) (rw s.3 at (left_own t g.sane i s.0 s.1 s.2))
            ∙ (rw s.3 at (l.stay s.0 b s.1 (omega arith) lb))

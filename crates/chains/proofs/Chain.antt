-- Where the live words stand, found pair by pair.
use mathlib.Core.Path.{◌≡◌, refl, sym, ap, ◌∙◌}
use mathlib.Core.Logic.{◌⊎◌, inl, inr}
use mathlib.Core.Bool.{Bool, true, false, cond}
use mathlib.Core.List.{List}
use Prim.Native.Nat.{ℕ, zero, suc, ◌+◌, ◌≤◌, ◌<◌}
use native.Mathlib.Nat.{eq-or-lt_of_le}
use native.Mathlib.Numerals.{add-one}
use native.Mathlib.Decide.{ℕ_discrete}
use native.Mathlib.Omega.{arith}
use borrow.Author.Count.{below_more}
use borrow.Author.Tests.{eq-eqb, ne_eqb}
use lib.Dec.{eqb}
use lib.ListN.{length, set, length-set}
use lib.Seq.{get_or-set_same, get_or-set_other}
use Rattle.problem.specs.Tables.{Tables, boats, listed, lower, higher, place, is_listed}
use Rattle.problem.specs.Sane.{Sane}
use Rattle.problem.proofs.Lowest.{not_both}
use Rattle.problem.proofs.Places.{listed_lt, place_pair}
use Rattle.words.specs.Places.{all_at, live_at}
use Rattle.words.specs.Layout.{word, ChangedOnly, first_pair, left_at, Chained}
use Rattle.words.proofs.ChangedOnly.{only_refl, only_trans, only_set}
use Rattle.words.proofs.Firsts.{first_le, first_next, first_zero, first_from, first_before}
use Rattle.words.proofs.Pairs.{pair_own, pair_is, higher_rise, place_before}
use Rattle.words.proofs.Lefts.{left_none, left_listed, left_unlisted}

-- where the slots of boat j stand that the pairs before k leave live
unfoldable pub last_before : List ℕ → (k j : ℕ) → ℕ
last_before pairs zero j = all_at j
last_before pairs (suc k) j = cond (eqb j (higher pairs k)) (live_at k) (last_before pairs k j)

module _ (pairs : List ℕ) (j : ℕ) where
  before_none : last_before pairs 0 j ≡ all_at j
  unfolding last_before
  before_none = refl

  before_own : (k : ℕ) → j ≡ higher pairs k → last_before pairs (suc k) j ≡ live_at k
  unfolding last_before
  before_own k e = rw (eq-eqb j (higher pairs k) e, last_before)

  before_other : (k : ℕ) → (j ≡ higher pairs k → ⊥) → last_before pairs (suc k) j ≡ last_before pairs k j
  unfolding last_before
  before_other k ne = rw (ne_eqb j (higher pairs k) ne, last_before)

  -- past pairs of other boats
  before_past : (k l : ℕ) → k ≤ l → ((q : ℕ) → k ≤ q → q < l → j ≡ higher pairs q → ⊥) → last_before pairs l j ≡ last_before pairs k j
  before_past k zero le none = ap (λ (q : ℕ). last_before pairs q j) (omega arith)
  before_past k (suc l) le none = by (eq-or-lt_of_le le) (λ lt. before_past k l lt (λ q lo hi. none q lo (omega arith)))
    where
      by : (k ≡ suc l) ⊎ (k < suc l) → (k ≤ l → last_before pairs l j ≡ last_before pairs k j) → last_before pairs (suc l) j ≡ last_before pairs k j
      by (inl e) rec = ap (λ (q : ℕ). last_before pairs q j) (sym e)
      by (inr lt) rec = before_other l (none l (omega arith) (omega arith)) ∙ rec (omega arith)

module _ (t : Tables) (s : Sane t) where
  -- the pairs before those of boat i are those of the boats below it
  before_first : (i j : ℕ) → last_before t.pairs (first_pair t.pairs i) j ≡ left_at t.pairs i j
  before_first zero j = ap (λ (q : ℕ). last_before t.pairs q j) (first_zero t.pairs) ∙ before_none t.pairs j ∙ sym (left_none t.pairs j)
  before_first (suc g) j = by (is_listed t.pairs g j) refl (before_first g j)
    where
      by : (b : Bool) → is_listed t.pairs g j ≡ b → last_before t.pairs (first_pair t.pairs g) j ≡ left_at t.pairs g j →
          last_before t.pairs (first_pair t.pairs (suc g)) j ≡ left_at t.pairs (suc g) j
      by true e ih =
          let p = place t.pairs g j in
          let q = place_pair t.pairs g j (listed_lt t.pairs g j e) in
          let lo : first_pair t.pairs g ≤ p = first_before t.pairs g p (listed_lt t.pairs g j e) (omega (arith, q.0)) in
          before_past t.pairs j (suc p) (first_pair t.pairs (suc g)) (place_before t.pairs s.rising g (suc g) j e (omega arith))
          (λ r lp hi z. omega (arith, q.1, higher_rise t.pairs s.rising g p r lo lp hi))
          ∙ before_own t.pairs j p (sym q.1)
          ∙ sym (left_listed t.pairs j g e)
      by false e ih =
          before_past t.pairs j (first_pair t.pairs g) (first_pair t.pairs (suc g)) (first_next t.pairs g)
          (λ r lo hi z. not_both (pair_is t.pairs s.rising g r lo hi) (rw z at e))
          ∙ ih
          ∙ sym (left_unlisted t.pairs j g e)

  before_pair : (p : ℕ) → p < listed t.pairs → last_before t.pairs p (higher t.pairs p) ≡ left_at t.pairs (lower t.pairs p) (higher t.pairs p)
  before_pair p l =
      let i = lower t.pairs p in
      let own = pair_own t.pairs s.rising p l in
      before_past t.pairs (higher t.pairs p) (first_pair t.pairs i) p own.0
      (λ r lo hi z. omega (arith, higher_rise t.pairs s.rising i r p lo hi own.1))
      ∙ before_first i (higher t.pairs p)

  before_all : (j : ℕ) → last_before t.pairs (listed t.pairs) j ≡ left_at t.pairs j j
  before_all j =
      before_past t.pairs j (first_pair t.pairs j) (listed t.pairs) (first_le t.pairs j)
      (λ r lo hi z. omega (arith, first_from t.pairs s.rising j r lo hi, s.lower_first r hi))
      ∙ before_first j j

-- ---- no pair yet: the boats below j have all their slots
pub record ChainBegun (w₀ w : List ℕ) (j : ℕ) : Type 0 where
  pub all_left : (k : ℕ) → k < j → word w (448 + k) ≡ all_at k
  pub only : ChangedOnly 448 4096 w₀ w

-- ---- before pair k
pub record ChainTo (t : Tables) (w₀ w : List ℕ) (k : ℕ) : Type 0 where
  pub prev : (p : ℕ) → p < k → word w (512 + p) ≡ last_before t.pairs p (higher t.pairs p)
  pub last : (j : ℕ) → j < boats t → word w (448 + j) ≡ last_before t.pairs k j
  pub only : ChangedOnly 448 4096 w₀ w

pub chain_none : {t : Tables} {w₀ w : List ℕ} {j : ℕ} → ChainBegun w₀ w j → boats t ≤ j → ChainTo t w w 0
chain_none {t} {w = w} b le =
    record {
      prev = λ p l. absurd (omega arith);
      last = λ k l. b.all_left k (omega arith) ∙ sym (before_none t.pairs k);
      only = only_refl 448 4096 w;
    }

module _ {t : Tables} (s : Sane t) {w₀ w : List ℕ} {k : ℕ} (c : ChainTo t w₀ w k) where
  pub chain_all : k ≡ listed t.pairs → Chained t w
  chain_all e =
      record {
        prev = λ p l. c.prev p (omega arith) ∙ before_pair t s p l;
        last = λ j l. c.last j l ∙ ap (λ (q : ℕ). last_before t.pairs q j) e ∙ before_all t s j;
      }

  -- pair k takes the place of its higher boat's last
  module _ {at : ℕ} (l : k < listed t.pairs) (ea : at ≡ 448 + higher t.pairs k) where
    abbrev v : List ℕ
    v = set w (512 + k) (word w at)

    small : (at < 512) × (k < 2016)
    small = omega (arith, s.few_pairs, s.few_boats, s.boats_named k l)

    pub chain_more : 8192 ≤ length w₀ → ChainTo t w₀ (set v at (4096 + k)) (k + 1)
    chain_more long =
        record {
          prev =
              below_more (λ p. word (set v at (4096 + k)) (512 + p) ≡ last_before t.pairs p (higher t.pairs p)) k
              (λ p lp.
              get_or-set_other v at (512 + p) (4096 + k) 0 (omega (arith, small))
              ∙ get_or-set_other w (512 + k) (512 + p) (word w at) 0 (omega arith)
              ∙ c.prev p lp)
              (get_or-set_other v at (512 + k) (4096 + k) 0 (omega (arith, small))
              ∙ get_or-set_same w (512 + k) (word w at) 0 (omega (arith, small, c.only.long))
              ∙ ap (word w) ea
              ∙ c.last (higher t.pairs k) (s.boats_named k l));
          last = λ j lj. last_more j lj (ℕ_discrete j (higher t.pairs k));
          only = only_trans (only_trans c.only (only_set w (512 + k) (word w at) (omega arith) (omega (arith, small)))) (only_set v at (4096 + k) (omega arith) (omega (arith, small)));
        }
      where
        last_more : (j : ℕ) → j < boats t → Dec (j ≡ higher t.pairs k) → word (set v at (4096 + k)) (448 + j) ≡ last_before t.pairs (k + 1) j
        last_more j lj (yes e) =
            let z : 448 + j ≡ at = omega arith in
            rw (add-one k, before_own t.pairs j k e, z) (get_or-set_same v at (4096 + k) 0 (omega (arith, small, c.only.long, length-set w (512 + k) (word w at))))
        last_more j lj (no ne) =
            get_or-set_other v at (448 + j) (4096 + k) 0 (λ z. ne (omega arith))
            ∙ get_or-set_other w (512 + k) (448 + j) (word w at) 0 (omega (arith, s.few_boats))
            ∙ c.last j lj
            ∙ rw add-one (sym (before_other t.pairs j k ne))

-- The index for looking back, filled pair by pair.
use mathlib.Core.Path.{◌≡◌, sym, ap, ap₂, ◌∙◌}
use mathlib.Core.Bool.{cond}
use mathlib.Core.List.{List}
use Prim.Native.Nat.{ℕ, suc, ◌+◌, ◌≤◌, ◌<◌}
use native.Mathlib.Numerals.{add-one}
use native.Mathlib.Decide.{dec_lt, ℕ_discrete}
use native.Mathlib.Omega.{arith}
use borrow.Author.Tests.{lt-ltb, le-ltb}
use lib.Dec.{ltb}
use lib.ListN.{length, set}
use lib.Seq.{get_or-set_same, get_or-set_other}
use Rattle.problem.specs.Tables.{Tables, boats, size, listed, lower, higher, place, is_listed, start}
use Rattle.problem.specs.Sane.{Sane}
use Rattle.problem.proofs.Starts.{start_zero, start_next, start_few}
use Rattle.problem.proofs.Places.{place_at, place_pair}
use Rattle.words.specs.Places.{tri}
use Rattle.words.specs.Layout.{word, ChangedOnly, Zero, index_of, Indexed}
use Rattle.words.proofs.Triangle.{tri_small, tri_once}
use Rattle.words.proofs.ChangedOnly.{only_refl, only_trans, only_set}

-- the word of the pair at place p, once the pairs below k are in the index
abbrev indexed_at : Tables → (k p : ℕ) → ℕ
indexed_at t k p = cond (ltb p k) (suc (start t.sizes t.pairs p)) 0

abbrev IndexedTo : Tables → (k : ℕ) → List ℕ → Type 0
IndexedTo t k w = (h i : ℕ) → h < i → i < boats t → word w (512 + tri i + h) ≡ indexed_at t k (place t.pairs h i)

-- where the word of pair k is
abbrev pub index_place : Tables → ℕ → ℕ
index_place t k = 512 + tri (higher t.pairs k) + lower t.pairs k

abbrev index_put : Tables → (k : ℕ) → List ℕ → List ℕ
index_put t k w = set w (index_place t k) (start t.sizes t.pairs k + 1)

-- before pair k, whose rows begin at n
pub record BackTo (t : Tables) (w₀ w : List ℕ) (n k : ℕ) : Type 0 where
  pub begins : n ≡ start t.sizes t.pairs k
  pub few : n ≤ 129024
  pub filled : IndexedTo t k w
  pub only : ChangedOnly 512 4096 w₀ w

module _ (t : Tables) where
  at_below : (k p : ℕ) → p < k → indexed_at t k p ≡ suc (start t.sizes t.pairs p)
  at_below k p l = rw (lt-ltb p k l)

  at_from : (k p : ℕ) → k ≤ p → indexed_at t k p ≡ 0
  at_from k p l = rw (le-ltb p k l)

  -- pair k changes no other pair's word
  at_next : (k p : ℕ) → (p ≡ k → ⊥) → indexed_at t (k + 1) p ≡ indexed_at t k p
  at_next k p ne = by (dec_lt p k)
    where
      by : Dec (p < k) → indexed_at t (k + 1) p ≡ indexed_at t k p
      by (yes y) = at_below (k + 1) p (omega arith) ∙ sym (at_below k p y)
      by (no n) = at_from (k + 1) p (omega arith) ∙ sym (at_from k p (omega arith))

  indexed_all : (w : List ℕ) → IndexedTo t (listed t.pairs) w → Indexed t w
  unfolding index_of is_listed
  indexed_all w all = all

module _ {t : Tables} (s : Sane t) where
  within : (h i : ℕ) → h < i → i < boats t → 512 + tri i + h < 4096
  within h i lh li = omega (arith, tri_small i (omega arith))

  pub index_place_lt : (k : ℕ) → k < listed t.pairs → index_place t k < 4096
  index_place_lt k l = within (lower t.pairs k) (higher t.pairs k) (s.lower_first k l) (s.boats_named k l)

  -- no other pair's word is where pair k's is
  place_once : (k : ℕ) → k < listed t.pairs → (h i : ℕ) → h < i → 512 + tri i + h ≡ index_place t k → place t.pairs h i ≡ k
  place_once k l h i lh e =
      let q = tri_once h i (lower t.pairs k) (higher t.pairs k) lh (s.lower_first k l) (omega arith) in
      ap₂ (place t.pairs) q.0 q.1 ∙ place_at t.pairs s.rising k l

  indexed_more : (k : ℕ) (w : List ℕ) → k < listed t.pairs → 4096 ≤ length w → IndexedTo t k w → IndexedTo t (k + 1) (index_put t k w)
  indexed_more k w l long ih h i lh li = by (ℕ_discrete (place t.pairs h i) k)
    where
      by : Dec (place t.pairs h i ≡ k) → word (index_put t k w) (512 + tri i + h) ≡ indexed_at t (k + 1) (place t.pairs h i)
      by (yes e) =
          let q = place_pair t.pairs h i (rw e l) in
          let at : 512 + tri i + h ≡ index_place t k = omega (arith, rw e at q.0, ap tri (rw e at q.1)) in
          ap (word (index_put t k w)) at
          ∙ get_or-set_same w (index_place t k) (start t.sizes t.pairs k + 1) 0 (omega (arith, index_place_lt k l))
          ∙ sym (at_below t (k + 1) (place t.pairs h i) (omega arith) ∙ rw (e, add-one))
      by (no ne) =
          get_or-set_other w (index_place t k) (512 + tri i + h) (start t.sizes t.pairs k + 1) 0 (λ e. ne (place_once k l h i lh e))
          ∙ ih h i lh li
          ∙ sym (at_next t k (place t.pairs h i) ne)

  pub back_none : (w : List ℕ) → Zero 512 4096 w → BackTo t w w 0 0
  back_none w none =
      record {
        begins = sym (start_zero t.sizes t.pairs);
        few = omega arith;
        filled = λ h i lh li. none (512 + tri i + h) (omega arith) (within h i lh li) ∙ sym (at_from t 0 (place t.pairs h i) (omega arith));
        only = only_refl 512 4096 w;
      }

  module _ {w₀ w : List ℕ} {n k : ℕ} (b : BackTo t w₀ w n k) where
    pub back_more : {at z : ℕ} → 8192 ≤ length w₀ → k < listed t.pairs → at ≡ index_place t k → z ≡ size t.sizes (lower t.pairs k)
        → BackTo t w₀ (set w at (n + 1)) (n + z) (k + 1)
    back_more {at = at} long l ea ez =
        record {
          begins = omega (arith, start_next t.sizes t.pairs k);
          few = omega (arith, start_next t.sizes t.pairs k, start_few t s (k + 1) (omega arith));
          filled = rw (ea, b.begins) (indexed_more k w l (omega arith) b.filled);
          only = only_trans b.only (only_set w at (n + 1) (omega arith) (omega (arith, index_place_lt k l)));
        }

    pub back_all : k ≡ listed t.pairs → Indexed t w
    back_all e = indexed_all t w (rw e at b.filled)

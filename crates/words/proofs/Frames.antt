-- What is known of the words stays known where the words that it speaks of are as they were.
use mathlib.Core.Path.{◌≡◌, ◌∙◌}
use mathlib.Core.Logic.{inl, inr}
use mathlib.Core.List.{List}
use Prim.Native.Nat.{ℕ, ◌≤◌, ◌<◌}
use native.Mathlib.Omega.{arith}
use Rattle.problem.specs.Tables.{Tables, boats}
use Rattle.problem.specs.Sane.{Sane}
use Rattle.words.specs.Places.{starts, row_starts_end, lasts, index, alls, marks, start_at, end_at, row_start_at, link_at, index_at, last_at, prev_at}
use Rattle.words.specs.Layout.{word, ChangedOnly, Placed, Indexed, Firsts, Chained}
use Rattle.words.specs.Links.{Linked}
use Rattle.words.proofs.Triangle.{tri_small}
use Rattle.words.proofs.Links.{links_stay}

-- the words from one place up to another are as they were
abbrev pub Same : (from to : ℕ) → (w w' : List ℕ) → Type 0
Same from to w w' = (k : ℕ) → from ≤ k → k < to → word w' k ≡ word w k

module _ {a b : ℕ} {w w' : List ℕ} (o : ChangedOnly a b w w') {from to : ℕ} where
  pub same_before : to ≤ a → Same from to w w'
  same_before l k lo hi = o.others k (inl (omega arith))

  pub same_after : b ≤ from → Same from to w w'
  same_after l k lo hi = o.others k (inr (omega arith))

module _ (t : Tables) (w w' : List ℕ) where
  pub placed_stays : (i : ℕ) → Same 0 i w w' → Placed t w i → Placed t w' i
  placed_stays i e p h lh = rw (e h (omega arith) lh) (p h lh)

  module _ (few : boats t ≤ 64) where
    pub indexed_stays : Same index marks w w' → Indexed t w → Indexed t w'
    indexed_stays e x h i lh li = e (index_at h i) (omega arith) (omega (arith, tri_small i (omega arith))) ∙ x h i lh li

    pub firsts_stay : Same starts row_starts_end w w' → Firsts t w → Firsts t w'
    firsts_stay e f =
        record {
          pair_from = λ i li. e (start_at i) (omega arith) (omega arith) ∙ f.pair_from i li;
          row_from = λ i li. e (row_start_at i) (omega arith) (omega arith) ∙ f.row_from i li;
        }

  pub chained_stays : Sane t → Same lasts alls w w' → Chained t w → Chained t w'
  chained_stays s e c =
      record {
        prev = λ p lp. e (prev_at p) (omega arith) (omega (arith, s.few_pairs)) ∙ c.prev p lp;
        last = λ j lj. e (last_at j) (omega arith) (omega (arith, s.few_boats)) ∙ c.last j lj;
      }

pub linked_stays : (t : Tables) {w w' : List ℕ} {a b : ℕ} → ChangedOnly a b w w' → b ≤ starts → Linked t w → Linked t w'
linked_stays t o l x =
    record {
      few = λ i li. rw (o.others (start_at i) (inr (omega arith))) (x.few i li);
      links = λ i li.
          rw (o.others (start_at i) (inr (omega arith)), o.others (end_at i) (inr (omega arith)))
          (links_stay (λ k lo hi. o.others (link_at k) (inr (omega arith))) (x.links i li));
    }

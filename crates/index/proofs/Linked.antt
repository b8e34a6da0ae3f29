-- Every boat's links, made boat by boat.
use mathlib.Core.Path.{◌≡◌, ap, ◌∙◌}
use mathlib.Core.Logic.{◌⊎◌, inl, inr}
use mathlib.Core.List.{List}
use Prim.Native.Nat.{ℕ, ◌+◌, ◌≤◌, ◌<◌}
use native.Mathlib.Omega.{arith}
use borrow.Author.Count.{below_more}
use lib.ListN.{length, set, length-set}
use lib.Seq.{get_or-set_same, get_or-set_other}
use Rattle.problem.specs.Tables.{Tables, boats}
use Rattle.problem.specs.Sane.{Sane}
use Rattle.words.specs.Places.{tri}
use Rattle.words.specs.Layout.{word, ChangedOnly, index_of}
use Rattle.words.specs.Links.{Links}
use Rattle.words.proofs.Triangle.{tri_next, tri_small, tri_mono}
use Rattle.words.proofs.ChangedOnly.{only_trans, only_set, only_widen}
use Rattle.words.proofs.Links.{links_bounds, links_stay}

-- where the links of boat k begin
abbrev first : List ℕ → ℕ → ℕ
first w k = word w (192 + k)

abbrev LinksOf : Tables → List ℕ → ℕ → Type 0
LinksOf t w k = Links t w k k 0 (first w k) (word w (193 + k))

-- boat i's links end at r, and the next boat's begin there
abbrev first_put : List ℕ → (i r : ℕ) → List ℕ
first_put w i r = set w (193 + i) r

-- before boat i, whose links begin at 512 + at: the later boats' index rows are as they were
pub record LinkedTo (t : Tables) (w₀ w : List ℕ) (at i : ℕ) : Type 0 where
  pub to_come : first w i ≡ at
  pub few : (k : ℕ) → k < i + 1 → (first w k ≤ tri k) × (first w k ≤ at)
  pub links : (k : ℕ) → k < i → LinksOf t w k
  pub indexed : (h k : ℕ) → h < k → i ≤ k → k < boats t → word w (512 + tri k + h) ≡ index_of t h k
  pub long : 8192 ≤ length w
  pub only : ChangedOnly 192 4096 w₀ w

module _ {t : Tables} (s : Sane t) {w₀ w : List ℕ} {at i : ℕ} (b : LinkedTo t w₀ w at i) where
  pub linked_at : at ≤ tri i
  linked_at = omega (arith, b.few i (omega arith), b.to_come)

  -- once boat i's links are made, and where they end is the next boat's word
  module _ {w₁ : List ℕ} {r : ℕ} (li : i < boats t) (made : (r ≤ at + i) × Links t w₁ i i 0 at r)
      (own : ChangedOnly (512 + at) (512 + tri i + i) w w₁) where
    put_other : (k : ℕ) → (k < 512 + at) ⊎ (512 + tri i + i ≤ k) → (k ≡ 193 + i → ⊥) → word (first_put w₁ i r) k ≡ word w k
    put_other k away ne = get_or-set_other w₁ (193 + i) k r 0 ne ∙ own.others k away

    put_here : word (first_put w₁ i r) (193 + i) ≡ r
    put_here = get_or-set_same w₁ (193 + i) r 0 (omega (arith, own.long, b.long))

    put_first : (k : ℕ) → k < i + 1 → first (first_put w₁ i r) k ≡ first w k
    put_first k l = put_other (192 + k) (inl (omega arith)) (omega arith)

    -- the links of the boats before it are below its own
    links_before : (k : ℕ) → k < i → LinksOf t (first_put w₁ i r) k
    links_before k l =
        let e : 193 + k ≡ 192 + (k + 1) = omega arith in
        let f = b.few (k + 1) (omega arith) in
        let g = ap (word w) e in
        rw (put_first k (omega arith), put_other (193 + k) (inl (omega arith)) (omega arith))
        (links_stay (λ m lo hi. put_other (512 + m) (inl (omega arith)) (omega arith)) (b.links k l))

    links_here : LinksOf t (first_put w₁ i r) i
    links_here =
        rw (put_first i (omega arith), b.to_come, put_here)
        (links_stay (λ m lo hi. get_or-set_other w₁ (193 + i) (512 + m) r 0 (omega arith)) made.1)

    pub linked_more : LinkedTo t w₀ (first_put w₁ i r) r (i + 1)
    linked_more =
        let e : 192 + (i + 1) ≡ 193 + i = omega arith in
        let z = ap (word (first_put w₁ i r)) e ∙ put_here in
        let q = links_bounds made.1 in
        record {
          to_come = z;
          few =
              below_more _ (i + 1)
              (λ k l. let f = b.few k l in let p = put_first k l in omega arith)
              (omega (arith, linked_at, tri_next i));
          links = below_more (LinksOf t (first_put w₁ i r)) i links_before links_here;
          indexed = λ h k lh lo hi.
              put_other (512 + tri k + h) (inr (omega (arith, tri_next i, tri_mono (i + 1) k lo))) (omega arith) ∙ b.indexed h k lh (omega arith) hi;
          long = omega (arith, b.long, own.long, length-set w₁ (193 + i) r);
          only =
              only_trans b.only
              (only_trans (only_widen (omega arith) (omega (arith, tri_small i (omega arith))) own) (only_set w₁ (193 + i) r (omega arith) (omega arith)));
        }

-- The links of a boat, for its trials: the next one is the next listed boat, and none left means that no listed boat is left.
use mathlib.Core.Path.{◌≡◌}
use mathlib.Core.Bool.{true}
use mathlib.Core.List.{List}
use Prim.Native.Nat.{ℕ, suc, ◌+◌, ◌/◌, ◌%◌, ◌≤◌, ◌<◌}
use native.Mathlib.Omega.{arith}
use lib.ListN.{length}
use Rattle.problem.specs.Tables.{Tables, boats, place, is_listed, start}
use Rattle.events.specs.declared.Counts.{Counts}
use Rattle.methods.specs.BT.{Looked}
use Rattle.words.specs.Places.{tri}
use Rattle.words.specs.Layout.{word}
use Rattle.words.specs.Links.{link_of, Links, none, past, link, Linked}
use Rattle.words.proofs.Triangle.{tri_small}
use Rattle.words.proofs.Links.{links_bounds}
use Rattle.visits.proofs.Looking.{Looking, looks_past}

-- ---- what a link says
module _ (t : Tables) (h i l : ℕ) (is_link : l ≡ link_of t h i) (few : h < 64) where
  pub link_boat_lem : l % 64 ≡ h
  link_boat_lem = omega (arith, is_link)

  pub link_row : l / 64 ≡ start t.sizes t.pairs (place t.pairs h i)
  link_row = omega (arith, is_link)

-- ---- from boat h on, the links of boat i are the words from q up to e
module _ (t : Tables) (w : List ℕ) (i : ℕ) (le : i ≤ length w) where
  pub record Next (h q e : ℕ) : Type 0 where
    pub boat : ℕ
    pub below : boat < i
    pub listed : is_listed t.pairs boat i ≡ true
    pub is_link : word w (512 + q) ≡ link_of t boat i
    pub rest : Links t w i i (suc boat) (suc q) e
    -- the boats before it are unlisted
    pub passed : {a : ℕ} {whole : Looked} {m n : Counts} → Looking t w i a whole m h n → Looking t w i a whole m boat n

  pub next : {h q e : ℕ} → Links t w i i h q e → q < e → Next h q e
  next none l = absurd (omega arith)
  next (past {h = h} f x) l =
      let n = next x l in
      record {
        boat = n.boat;
        below = n.below;
        listed = n.listed;
        is_link = n.is_link;
        rest = n.rest;
        passed = λ b. n.passed (looks_past le b (omega (arith, links_bounds x)) f);
      }
  next (link {h = h} f g x) l =
      record { boat = h; below = omega (arith, links_bounds x); listed = f; is_link = g; rest = x; passed = λ b. b }

  -- no boat is left
  pub none_left : {h q e : ℕ} → Links t w i i h q e → e ≤ q → {a : ℕ} {whole : Looked} {m n : Counts} → Looking t w i a whole m h n → Looking t w i a whole m i n
  none_left none l b = b
  none_left (past {h = h} f x) l b = none_left x l (looks_past le b (omega (arith, links_bounds x)) f)
  none_left (link f g x) l b = absurd (omega (arith, links_bounds x))

-- there are never more than 2,016
pub links_few : (t : Tables) (w : List ℕ) (i : ℕ) → Linked t w → i < boats t → boats t ≤ 64 → word w (193 + i) ≤ 2016
unfolding tri
links_few t w i x l few =
    let z : 192 + suc i ≡ 193 + i = omega arith in
    let y : word w (193 + i) ≤ tri (suc i) = rw z at (x.few (suc i) l) in
    omega (arith, y, tri_small i (omega arith))

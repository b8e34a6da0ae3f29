-- The live words: what changes and stays, and whom a boat's losses blame.
use mathlib.Core.Path.{◌≡◌, refl, sym, ap, ◌∙◌}
use mathlib.Core.Bool.{Bool, true, false, not, ◌&&◌, and-true}
use mathlib.Core.List.{List, [], ◌∷◌, ◌++◌}
use mathlib.Core.Logic.{◌⊎◌, inl, inr}
use mathlib.Mathlib.Data.Bool.Basic.{eq-false_of_not-eq-true}
use Prim.Native.Nat.{ℕ, suc, ◌^◌, ◌≤◌, ◌<◌}
use native.Mathlib.Omega.{arith}
use native.Mathlib.Nat.{le_refl, eq-or-lt_of_le}
use lib.Dec.{T, ltb, eqb}
use lib.ListN.{length, take, length-append}
use lib.Seq.{take_all, take-append-le}
use Rattle.std.proofs.lemmas.Bool.Decides.{nat_tests}
use borrow.Author.Tests.{eq-eqb, ne_eqb, lt-ltb}
use Rattle.problem.specs.Tables.{Tables, boats, size, is_listed, bit}
use Rattle.problem.specs.Sane.{Sane}
use Rattle.problem.proofs.Lowest.{not_both}
use Rattle.problem.proofs.Places.{to_true}
use Rattle.methods.specs.Choices.{choices, may_stand}
use Rattle.methods.specs.Moves.{some?}
use Rattle.methods.proofs.Runs.{at}
use Rattle.methods.proofs.Looking.{may_unlisted}
use Rattle.methods.specs.ByPlan.{refuser, is_first, is_open, blamers_of}
use Rattle.methods.proofs.Ahead.{some?_elim, some?_none, some?_same, blamers_below}
use Rattle.methods.proofs.Shown.{choices_size}
use Rattle.words.specs.Places.{alls, blames, used, live_at, blame_at}
use Rattle.words.specs.Layout.{word, ChangedOnly, first_pair, left_at}
use Rattle.words.proofs.Frames.{Same, same_before}
use Rattle.words.proofs.Lefts.{left_from, left_unlisted, left_before, left_within}
use Rattle.visits.specs.declared.Backward.{Backward}
use Rattle.visits.specs.declared.Backward.TheVariants.{OneBack, BySets}
use Rattle.live_words.specs.Lives.{left_word, Lives, Stays, LostAt, Blames}
use Rattle.live_words.specs.Kept.{BlamesKept}
use Rattle.live_words.proofs.Words.{and_swap, bits_same}
use Rattle.live_words.proofs.Losses.{lost_stays}
use Rattle.live_words.proofs.Openings.{open_snoc, open_suc, first_at}

-- two words with a bit for each place below n where a test passes, the second only where another passes too: they differ exactly where some place
-- passes the first test and not the other
module _ (n x y : ℕ) (f m : ℕ → Bool) (small : n ≤ 64) (lx : x < 2 ^ 64) (ly : y < 2 ^ 64)
    (inx : (b : ℕ) → b < 64 → bit x b ≡ (f b && ltb b n)) (iny : (b : ℕ) → b < 64 → bit y b ≡ ((f b && m b) && ltb b n)) where
  lost_case : (u v : Bool) → T (u && not v) → (u ≡ true) × (v ≡ false)
  lost_case true false h = (refl, refl)
  lost_case true true h = absurd h
  lost_case false v h = absurd h

  some_differ : some? n (λ b. f b && not (m b)) ≡ not (eqb x y)
  some_differ = by (some? n (λ b. f b && not (m b))) refl
    where
      by : (s : Bool) → some? n (λ b. f b && not (m b)) ≡ s → s ≡ not (eqb x y)
      by true e =
          let w = some?_elim n (λ b. f b && not (m b)) (to_true _ e) in
          let z = lost_case (f w.0) (m w.0) w.2 in
          let l : ltb w.0 n ≡ true = lt-ltb w.0 n w.1 in
          let bx : bit x w.0 ≡ true = inx w.0 (omega arith) ∙ rw (z.0, l) in
          let by' : bit y w.0 ≡ false = iny w.0 (omega arith) ∙ rw (z.0, z.1) in
          let differ : x ≡ y → ⊥ = λ same. not_both bx (ap (λ (v : ℕ). bit v w.0) same ∙ by') in
          sym (ap not (ne_eqb x y differ))
      by false e = sym (ap not (eq-eqb x y (bits_same 64 x y lx ly (λ b lb. inx b lb ∙ kept b ∙ sym (iny b lb)))))
        where
          kept : (b : ℕ) → (f b && ltb b n) ≡ ((f b && m b) && ltb b n)
          kept b = grind (arith, nat_tests, some?_none n (λ b. f b && not (m b)) e b)

-- ---- the words before those of boat i's own pairs are as they were
module _ (t : Tables) (w w' : List ℕ) (sane : Sane t) where
  pub left_stays : (i : ℕ) → Same alls (live_at (first_pair t.pairs i)) w w' → (k j : ℕ) → k ≤ i → j < boats t → left_word t w' k j ≡ left_word t w k j
  left_stays i e k j lk jn = e (left_at t.pairs k j) (left_from t.pairs j k) (left_before t sane k i j lk jn)

  pub lives_stay : (p : List ℕ) (i : ℕ) → Same alls (live_at (first_pair t.pairs i)) w w' → Lives t w p i → Lives t w' p i
  lives_stay p i e l k j b lk lj jn lb = ap (λ (v : ℕ). bit v b) (left_stays i e k j lk jn) ∙ l k j b lk lj jn lb

  pub blames_stay : (i : ℕ) → Same alls (live_at (first_pair t.pairs i)) w w' → Same blames used w w' → Blames t w i → Blames t w' i
  blames_stay i e f b k j lk jn =
      let inside = left_within t sane k j jn in
      let from = left_from t.pairs j k in
      rw (f (blame_at (left_at t.pairs k j)) (omega arith) (omega arith)) (lost_stays (λ n ln. left_stays i e n j (omega arith) jn) (b k j lk jn))

  pub blames_kept : (backward : Backward) (i : ℕ) → Same alls (live_at (first_pair t.pairs i)) w w' → Same blames used w w' → BlamesKept backward t w i → BlamesKept backward t w' i
  blames_kept OneBack i e f b = tt
  blames_kept BySets i e f b = blames_stay i e f b

-- at a boat before
pub blames_less : (backward : Backward) (t : Tables) (w : List ℕ) {h i : ℕ} → h ≤ i → BlamesKept backward t w i → BlamesKept backward t w h
blames_less OneBack t w l b = tt
blames_less BySets t w l b = λ k j lk jn. b k j (omega arith) jn

-- ---- no live words but those of boat i's own pairs, and of those after them, have changed
module _ (t : Tables) (i : ℕ) (w w' : List ℕ) (sane : Sane t) {b : ℕ} (o : ChangedOnly (live_at (first_pair t.pairs i)) b w w') where
  -- a slot of boat i has passed: what it leaves is right
  pub lives_pass : (p : List ℕ) (a : ℕ) → length p ≡ i → Lives t w p i → Stays t w w' i a → Lives t w' (p ++ (a ∷ [])) (suc i)
  lives_pass p a e l s k j b lk lj jn lb = by (eq-or-lt_of_le lk)
    where
      same : Same alls (live_at (first_pair t.pairs i)) w w'
      same = same_before o (le_refl _)

      all : take (suc i) (p ++ (a ∷ [])) ≡ p ++ (a ∷ [])
      all = take_all (suc i) (p ++ (a ∷ [])) (simp length-append (omega arith))

      whole : take i p ≡ p
      whole = take_all i p (omega arith)

      before : i < j → bit (left_word t w i j) b ≡ (is_open t p j b && ltb b (size t.sizes j))
      before h = rw whole at (l i j b (omega arith) (omega arith) jn lb)

      next : i < j → (h : Bool) → is_listed t.pairs i j ≡ h → bit (left_word t w' (suc i) j) b ≡ (is_open t p j b && may_stand t i a j b && ltb b (size t.sizes j))
      next h true f = s j b h jn lb f ∙ ap (λ (z : Bool). z && may_stand t i a j b) (before h) ∙ and_swap (is_open t p j b) (ltb b (size t.sizes j)) (may_stand t i a j b)
      next h false f =
          ap (λ (v : ℕ). bit (word w' v) b) (left_unlisted t.pairs j i f)
          ∙ ap (λ (v : ℕ). bit v b) (left_stays t w w' sane i same i j (le_refl i) jn)
          ∙ before h
          ∙ rw (may_unlisted t i a j b f, and-true (is_open t p j b))

      by : (k ≡ suc i) ⊎ (k < suc i) → bit (left_word t w' k j) b ≡ (is_open t (take k (p ++ (a ∷ []))) j b && ltb b (size t.sizes j))
      by (inl f) = rw (f, all, open_snoc t j b p a, e) (next (omega arith) (is_listed t.pairs i j) refl)
      by (inr f) = rw (take-append-le k p (a ∷ []) (omega arith)) (lives_stay t w w' sane p i same l k j b (omega arith) lj jn lb)

-- ---- the boats at whose trials boat j lost a slot are its blamers
module _ (t : Tables) (w p : List ℕ) (i j : ℕ) (e : length p ≡ i) (lj : i ≤ j) (jn : j < boats t) (small : size t.sizes j ≤ 64)
    (fit : (k : ℕ) → word w k < 2 ^ 64) (l : Lives t w p i) where
  blamed_at : (g : ℕ) → g < i → blamers_of t p j g ≡ not (eqb (left_word t w g j) (left_word t w (suc g) j))
  unfolding blamers_of
  blamed_at g lg =
      some?_same (choices t j) (λ b. is_first g (refuser t j b 0 p)) (λ b. is_open t (take g p) j b && not (may_stand t g (at p g) j b)) (λ b lb. first_at t j b p g (omega arith))
      ∙ ap (λ (n : ℕ). some? n (λ b. is_open t (take g p) j b && not (may_stand t g (at p g) j b))) (choices_size t j)
      ∙ some_differ (size t.sizes j) (left_word t w g j) (left_word t w (suc g) j) (λ b. is_open t (take g p) j b) (λ b. may_stand t g (at p g) j b) small (fit _) (fit _)
      (λ b lb. l g j b (omega arith) (omega arith) jn lb)
      (λ b lb. rw (open_suc t j b p g (omega arith)) at (l (suc g) j b (omega arith) (omega arith) jn lb))

  blamed_not : (g : ℕ) → i ≤ g → blamers_of t p j g ≡ false
  blamed_not g lg = eq-false_of_not-eq-true (λ f. omega (arith, blamers_below t p j g (to_true _ f)))

  pub lost_blamers : (r : ℕ) → LostAt t w i j r → (g : ℕ) → bit r g ≡ blamers_of t p j g
  lost_blamers r m g = m.members g ∙ grind (arith, nat_tests, blamed_at g, blamed_not g)

  pub blame_blamers : Blames t w i → (g : ℕ) → bit (word w (blame_at (left_at t.pairs i j))) g ≡ blamers_of t p j g
  blame_blamers b = lost_blamers _ (b i j (le_refl i) jn)

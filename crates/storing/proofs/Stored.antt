-- The words once a visit's answer is stored: what they hold, and what is then remembered.
use mathlib.Core.Path.{◌≡◌, refl, ap, ◌∙◌, fun_ext}
use mathlib.Core.Logic.{inl}
use mathlib.Core.List.{List, [], ◌∷◌, ◌++◌}
use Prim.Native.Nat.{ℕ, suc, ◌^◌, ◌≤◌, ◌<◌}
use native.Mathlib.Omega.{arith}
use native.Mathlib.Decide.{dec_lt, ℕ_discrete}
use native.Mathlib.Nat.{le_refl}
use borrow.Author.Tests.{eq-eqb, ne_eqb, lt-ltb, le-ltb}
use lib.Pow.{pow_pos}
use lib.ListN.{length, take, set, length-set}
use lib.Seq.{take-suc-set, take-set-le, get_or-set_same, get_or-set_other}
use Rattle.problem.specs.Tables.{Tables, size}
use Rattle.words.specs.Places.{lives, used, set_at, next_set_at}
use Rattle.words.specs.Layout.{word, ChangedOnly, Placed}
use Rattle.words.specs.Sets.{set_words, SetsBelow}
use Rattle.words.proofs.ChangedOnly.{only_trans, only_set, only_widen, only_take}
use Rattle.visits.specs.declared.Backward.{Backward}
use Rattle.visits.specs.declared.Backward.TheVariants.{OneBack, BySets}
use Rattle.visits.specs.Visits.{state}
use Rattle.moves.specs.Memory.{SetsKept}
use Rattle.moves.specs.declared.Moves.{Moves}
use Rattle.moves.specs.declared.Moves.TheVariants.{LookingBack, Marking, LookingAhead}
use Rattle.storing.specs.Stored.{passed_words, set_stored, kept_words, set_begun_with}

-- ---- the sets, from words that agree with those before: of boat i, whose set is s, ..
module _ (w u : List ℕ) (i s : ℕ) (own : word u (set_at i) ≡ s) (below : (k : ℕ) → k < i → word u (set_at k) ≡ word w (set_at k)) where
  sets_stay : set_words w i s ≡ set_words u i (word u (set_at i))
  sets_stay = fun_ext (λ k. by k (dec_lt k i))
    where
      by : (k : ℕ) → Dec (k < i) → set_words w i s k ≡ set_words u i (word u (set_at i)) k
      by k (yes y) = rw (lt-ltb k i y, below k y, own)
      by k (no ny) = rw (le-ltb k i (omega arith), own)

  below_stay : s < 2 ^ i → SetsBelow w i → SetsBelow u i
  below_stay ls x k lk = by (dec_lt k i)
    where
      by : Dec (k < i) → word u (set_at k) < 2 ^ k
      by (yes y) = rw (below k y) (x k lk)
      by (no ny) = let e : k ≡ i = omega arith in rw (e, own) ls

  kept_stay : (backward : Backward) → s < 2 ^ i → SetsKept backward w i → SetsKept backward u i
  kept_stay OneBack ls x = tt
  kept_stay BySets ls x = below_stay ls x

  -- .. and of the boat after it, whose set is empty
  module _ (none : word u (set_at (suc i)) ≡ 0) where
    sets_next : set_words w i s ≡ set_words u (suc i) (word u (set_at (suc i)))
    sets_next = fun_ext (λ k. by k (dec_lt k i) (ℕ_discrete k i) (ℕ_discrete k (suc i)))
      where
        by : (k : ℕ) → Dec (k < i) → Dec (k ≡ i) → Dec (k ≡ suc i) → set_words w i s k ≡ set_words u (suc i) (word u (set_at (suc i))) k
        by k (yes y) d d' = rw (ne_eqb k i (omega arith), ne_eqb k (suc i) (omega arith), lt-ltb k i y, lt-ltb k (suc i) (omega arith), below k y)
        by k (no ny) (yes f) d' = rw (f, eq-eqb i i refl, ne_eqb i (suc i) (omega arith), lt-ltb i (suc i) (omega arith), own)
        by k (no ny) (no nf) (yes g) = rw (ne_eqb k i nf, le-ltb k i (omega arith), eq-eqb k (suc i) g, none)
        by k (no ny) (no nf) (no ng) = rw (ne_eqb k i nf, le-ltb k i (omega arith), ne_eqb k (suc i) ng, le-ltb k (suc i) (omega arith))

    below_next : s < 2 ^ i → SetsBelow w i → SetsBelow u (suc i)
    below_next ls x k lk = by (dec_lt k (suc i))
      where
        by : Dec (k < suc i) → word u (set_at k) < 2 ^ k
        by (yes y) = below_stay ls x k (omega arith)
        by (no ny) = let e : k ≡ suc i = omega arith in rw (e, none) (pow_pos (suc i))

    kept_next : (backward : Backward) → s < 2 ^ i → SetsKept backward w i → SetsKept backward u (suc i)
    kept_next OneBack ls x = tt
    kept_next BySets ls x = below_next ls x

-- ---- a slot of boat i is held
pub placed_set : (t : Tables) (w : List ℕ) (i b : ℕ) → i < length w → b < size t.sizes i → Placed t w i → Placed t (set w i b) (suc i)
placed_set t w i b room inside x h lh = by (ℕ_discrete h i)
  where
    by : Dec (h ≡ i) → word (set w i b) h < size t.sizes h
    by (yes e) = rw (e, get_or-set_same w i b 0 room) inside
    by (no ne) = rw (get_or-set_other w i h b 0 ne) (x h (omega arith))

-- ---- the set that a visit begins with is the boat's own; a method that steps back has none
pub begun_below : (backward : Backward) (w : List ℕ) (i : ℕ) → SetsKept backward w i → set_begun_with backward w i < 2 ^ i
begun_below OneBack w i x = pow_pos i
begun_below BySets w i x = x i (le_refl i)

pub begun_state : (backward : Backward) (w : List ℕ) (i : ℕ) {x : ℕ} → x ≡ set_begun_with backward w i → state backward (set_words w i x) ≡ state backward (set_words w i (word w (set_at i)))
begun_state OneBack w i e = refl
begun_state BySets w i e = ap (λ (y : ℕ). state BySets (set_words w i y)) e

-- ---- a visit of boat i has gone from the words w to v
pub record Visiting (w v : List ℕ) (i : ℕ) : Type 0 where
  pub few : i < 64
  pub room : used ≤ length w
  pub visit : ChangedOnly lives used w v

-- slot b passed, and is stored with the set s; what is done after that leaves u
module _ {w v : List ℕ} {i : ℕ} (c : Visiting w v i) (b s : ℕ) {u : List ℕ} (after : ChangedOnly lives used (passed_words v i b s) u) where
  abbrev put : List ℕ
  put = set (set v i b) (set_at i) s

  -- all other words are as the visit left them
  passed_after : (k : ℕ) → k < 4096 → (k ≡ i → ⊥) → (k ≡ set_at i → ⊥) → (k ≡ next_set_at i → ⊥) → word u k ≡ word v k
  passed_after k l x y z =
      after.others k (inl l) ∙ get_or-set_other put (next_set_at i) k 0 0 z ∙ get_or-set_other (set v i b) (set_at i) k s 0 y ∙ get_or-set_other v i k b 0 x

  pub passed_other : (k : ℕ) → k < 4096 → (k ≡ i → ⊥) → (k ≡ set_at i → ⊥) → (k ≡ next_set_at i → ⊥) → word u k ≡ word w k
  passed_other k l x y z = passed_after k l x y z ∙ c.visit.others k (inl l)

  passed_slot : word u i ≡ b
  passed_slot =
      after.others i (inl (omega (arith, c.few)))
      ∙ get_or-set_other put (next_set_at i) i 0 0 (omega (arith, c.few))
      ∙ get_or-set_other (set v i b) (set_at i) i s 0 (omega (arith, c.few))
      ∙ get_or-set_same v i b 0 (omega (arith, c.few, c.room, c.visit.long))

  passed_own : word u (set_at i) ≡ s
  passed_own =
      after.others (set_at i) (inl (omega (arith, c.few)))
      ∙ get_or-set_other put (next_set_at i) (set_at i) 0 0 (omega (arith, c.few))
      ∙ get_or-set_same (set v i b) (set_at i) s 0 (omega (arith, length-set v i b, c.few, c.room, c.visit.long))

  passed_none : word u (set_at (suc i)) ≡ 0
  passed_none =
      let e : set_at (suc i) ≡ next_set_at i = omega arith in
      ap (word u) e
      ∙ after.others (next_set_at i) (inl (omega (arith, c.few)))
      ∙ get_or-set_same put (next_set_at i) 0 0 (omega (arith, length-set (set v i b) (set_at i) s, length-set v i b, c.few, c.room, c.visit.long))

  passed_below : (k : ℕ) → k < i → word u (set_at k) ≡ word w (set_at k)
  passed_below k lk = passed_other (set_at k) (omega (arith, c.few)) (omega (arith, c.few)) (omega (arith, c.few)) (omega (arith, c.few))

  pub passed_plan : take (suc i) u ≡ take i w ++ (b ∷ [])
  passed_plan =
      only_take after (suc i) (omega (arith, c.few)) (omega (arith, length-set put (next_set_at i) 0, length-set (set v i b) (set_at i) s, length-set v i b, c.few, c.room, c.visit.long))
      ∙ take-set-le (suc i) put (next_set_at i) 0 (omega (arith, c.few))
      ∙ take-set-le (suc i) (set v i b) (set_at i) s (omega (arith, c.few))
      ∙ take-suc-set v i b (omega (arith, c.few, c.room, c.visit.long))
      ∙ ap (λ (p : List ℕ). p ++ (b ∷ [])) (only_take c.visit i (omega (arith, c.few)) (omega (arith, c.few, c.room)))

  pub passed_only : ChangedOnly 0 used w u
  passed_only =
      only_trans (only_widen (omega (arith, c.few)) (omega (arith, c.few)) c.visit)
      (only_trans (only_set v i b (omega (arith, c.few)) (omega (arith, c.few)))
      (only_trans (only_set (set v i b) (set_at i) s (omega (arith, c.few)) (omega (arith, c.few)))
      (only_trans (only_set put (next_set_at i) 0 (omega (arith, c.few)) (omega (arith, c.few))) (only_widen (omega arith) (omega arith) after))))

  pub passed_placed : (t : Tables) → b < size t.sizes i → Placed t w i → Placed t u (suc i)
  passed_placed t lb x h lh = by (ℕ_discrete h i)
    where
      by : Dec (h ≡ i) → word u h < size t.sizes h
      by (yes e) = rw (e, passed_slot) lb
      by (no ne) = rw (passed_other h (omega (arith, c.few)) ne (omega (arith, c.few)) (omega (arith, c.few))) (x h (omega (arith, c.few)))

  pub passed_sets : (backward : Backward) → s < 2 ^ i → SetsKept backward w i → SetsKept backward u (suc i)
  passed_sets = kept_next w u i s passed_own passed_below passed_none

  pub passed_state : (backward : Backward) → state backward (set_words w i s) ≡ state backward (set_words u (suc i) (word u (set_at (suc i))))
  passed_state backward = ap (state backward) (sets_next w u i s passed_own passed_below passed_none)

-- the words of neither are as the visit left them
pub stored_after : {i : ℕ} (v : List ℕ) (b s k : ℕ) → i < 64 → 129 ≤ k → word (passed_words v i b s) k ≡ word v k
stored_after {i} v b s k few lo =
    get_or-set_other (set (set v i b) (set_at i) s) (next_set_at i) k 0 0 (omega arith) ∙ get_or-set_other (set v i b) (set_at i) k s 0 (omega arith) ∙ get_or-set_other v i k b 0 (omega arith)

-- no word comes or goes where a set is kept
pub kept_long : (moves : Moves) (w : List ℕ) (i s : ℕ) → length (kept_words moves w i s) ≡ length w
kept_long (LookingBack backward) w i s = length-set w (set_at i) s
kept_long Marking w i s = refl
kept_long (LookingAhead backward) w i s = length-set w (set_at i) s

-- the set s is stored, and no slot
module _ {w v : List ℕ} {i : ℕ} (c : Visiting w v i) (s : ℕ) where
  abbrev left : List ℕ
  left = set_stored v i s

  left_own : word left (set_at i) ≡ s
  left_own = get_or-set_same v (set_at i) s 0 (omega (arith, c.few, c.room, c.visit.long))

  pub left_other : (k : ℕ) → k < 4096 → (k ≡ set_at i → ⊥) → word left k ≡ word w k
  left_other k l n = get_or-set_other v (set_at i) k s 0 n ∙ c.visit.others k (inl l)

  left_below : (k : ℕ) → k < i → word left (set_at k) ≡ word w (set_at k)
  left_below k lk = left_other (set_at k) (omega (arith, c.few)) (omega (arith, c.few))

  pub left_plan : take i left ≡ take i w
  left_plan = take-set-le i v (set_at i) s (omega (arith, c.few)) ∙ only_take c.visit i (omega (arith, c.few)) (omega (arith, c.few, c.room))

  pub left_only : ChangedOnly 0 used w left
  left_only = only_trans (only_widen (omega (arith, c.few)) (omega (arith, c.few)) c.visit) (only_set v (set_at i) s (omega (arith, c.few)) (omega (arith, c.few)))

  pub left_sets : (backward : Backward) → s < 2 ^ i → SetsKept backward w i → SetsKept backward left i
  left_sets = kept_stay w left i s left_own left_below

  pub left_state : (backward : Backward) → state backward (set_words w i s) ≡ state backward (set_words left i (word left (set_at i)))
  left_state backward = ap (state backward) (sets_stay w left i s left_own left_below)

-- A sweep over the later boats: past those that are not listed, and at one that is.
use mathlib.Core.Path.{◌≡◌, refl, sym, ap, ◌∙◌}
use mathlib.Core.Bool.{Bool, true, false, ◌&&◌, and-true, and-false}
use mathlib.Core.List.{List, [], ◌++◌, append_assoc, append-nil}
use mathlib.Core.Option.{none, some}
use Prim.Native.Nat.{ℕ, zero, suc, ◌+◌, ◌-◌, ◌*◌, ◌%◌, ◌^◌, ◌≤◌, ◌<◌}
use native.Mathlib.Omega.{arith}
use native.Mathlib.Nat.{mod-eq_of_lt}
use lib.Dec.{ltb}
use lib.ListN.{length, length-append}
use lib.Count.{ones}
use borrow.Author.Tests.{lt-ltb, le-ltb}
use Rattle.problem.specs.Tables.{Tables, boats, is_listed, bit}
use Rattle.events.specs.Events.{Event, check, trials_of, checks_of, trials, checks}
use Rattle.methods.specs.Choices.{choices}
use Rattle.methods.specs.FC.{each_live, Swept, sweep_over}
use Rattle.methods.specs.ByPlan.{is_open, open_checks, open_stays, open_sweep}
use Rattle.sweeping.proofs.Ones.{one, ones_more, ones_none, short}

-- checks that are made before what is done further on
abbrev pub behind : List Event → Swept → Swept
behind es r = record { checks = es ++ r.checks; emptied = r.emptied }

pub behind_more : (es fs : List Event) (r : Swept) → behind es (behind fs r) ≡ behind (es ++ fs) r
behind_more es fs r = ap (λ (l : List Event). record { checks = l; emptied = r.emptied }) (sym (append_assoc es fs r.checks))

module _ (t : Tables) (p : List ℕ) (a : ℕ) where
  -- d boats from j on are not listed
  skip : (d j r s y : ℕ) → r ≡ d + s → y ≡ j + d → ((x : ℕ) → j ≤ x → x < y → is_listed t.pairs (length p) x ≡ false) →
      open_sweep t p a j r ≡ open_sweep t p a y s
  unfolding open_sweep
  skip zero j r s y er ey f =
      let e : r ≡ s = omega arith in
      let g : y ≡ j = omega arith in
      rw (e, g)
  skip (suc d) j r s y er ey f =
      let e : r ≡ suc (d + s) = omega arith in
      rw (e, f j (omega arith) (omega arith)) (skip d (suc j) (d + s) s y refl (omega arith) (λ x l h. f x (omega arith) h))

  pub sweep_past : (j y : ℕ) → j ≤ y → y ≤ boats t → ((x : ℕ) → j ≤ x → x < y → is_listed t.pairs (length p) x ≡ false) →
      open_sweep t p a j (boats t - j) ≡ open_sweep t p a y (boats t - y)
  sweep_past j y l h f = skip (y - j) j (boats t - j) (boats t - y) y (omega arith) (omega arith) f

  pub sweep_end : open_sweep t p a (boats t) (boats t - boats t) ≡ record { checks = []; emptied = none }
  unfolding open_sweep
  sweep_end = let e : boats t - boats t ≡ 0 = omega arith in rw e

  -- at a listed boat
  module _ (y : ℕ) (l : y < boats t) (is : is_listed t.pairs (length p) y ≡ true) where
    sweep_at : open_sweep t p a y (boats t - y) ≡ sweep_over y (open_checks t p a y 0 (choices t y)) true (open_stays t p a y) (open_sweep t p a (suc y) (boats t - suc y))
    unfolding open_sweep
    sweep_at = let e : boats t - y ≡ suc (boats t - suc y) = omega arith in rw (e, is)

    -- a slot of it stays: on to the next boat
    pub at_stays : open_stays t p a y ≡ true → open_sweep t p a y (boats t - y) ≡ behind (open_checks t p a y 0 (choices t y)) (open_sweep t p a (suc y) (boats t - suc y))
    at_stays e = sweep_at ∙ ap (λ (x : Bool). sweep_over y (open_checks t p a y 0 (choices t y)) true x (open_sweep t p a (suc y) (boats t - suc y))) e

    -- none stays: it is emptied
    pub at_emptied : open_stays t p a y ≡ false → open_sweep t p a y (boats t - y) ≡ record { checks = open_checks t p a y 0 (choices t y); emptied = some y }
    at_emptied e = sweep_at ∙ ap (λ (x : Bool). sweep_over y (open_checks t p a y 0 (choices t y)) true x (open_sweep t p a (suc y) (boats t - suc y))) e

    -- either way its checks come first
    pub at_checks : (es : List Event) × ((open_sweep t p a y (boats t - y)).checks ≡ open_checks t p a y 0 (choices t y) ++ es)
    at_checks = by (open_stays t p a y) refl
      where
        by : (x : Bool) → open_stays t p a y ≡ x → (es : List Event) × ((open_sweep t p a y (boats t - y)).checks ≡ open_checks t p a y 0 (choices t y) ++ es)
        by true e = (_, ap (λ (r : Swept). r.checks) (at_stays e))
        by false e = ([], ap (λ (r : Swept). r.checks) (at_emptied e) ∙ sym (append-nil (open_checks t p a y 0 (choices t y))))

  -- ---- the checks at a boat
  each_trials : (live : Bool) (x : ℕ) (j b : ℕ) (es : List Event) → trials es ≡ 0 → trials (each_live live (check x a j b) es) ≡ 0
  unfolding trials_of
  each_trials true x j b es h = h
  each_trials false x j b es h = h

  each_checks : (live : Bool) (x : ℕ) (j b : ℕ) (es : List Event) → checks (each_live live (check x a j b) es) ≡ one live + checks es
  unfolding checks_of
  each_checks true x j b es = omega arith
  each_checks false x j b es = omega arith

  pub checks_trials : (j b r : ℕ) → trials (open_checks t p a j b r) ≡ 0
  unfolding open_checks trials_of
  checks_trials j b zero = refl
  checks_trials j b (suc r) = each_trials (is_open t p j b) (length p) j b (open_checks t p a j (suc b) r) (checks_trials j (suc b) r)

  checks_ones : (v j b r : ℕ) → ((x : ℕ) → b ≤ x → x < b + r → bit v x ≡ is_open t p j x) →
      checks (open_checks t p a j b r) + ones (v % 2 ^ b) ≡ ones (v % 2 ^ (b + r))
  unfolding open_checks checks_of
  checks_ones v j b zero f = let e : b + 0 ≡ b = omega arith in rw e (omega arith)
  checks_ones v j b (suc r) f =
      let e : b + suc r ≡ suc b + r = omega arith in
      let ih = checks_ones v j (suc b) r (λ x l h. f x (omega arith) (omega arith)) in
      let h : one (bit v b) ≡ one (is_open t p j b) = ap one (f b (omega arith) (omega arith)) in
      rw e (omega (arith, each_checks (is_open t p j b) (length p) j b (open_checks t p a j (suc b) r), ones_more v b))

  -- of a word with a bit for each live choice
  pub checks_are : (v j : ℕ) → choices t j ≤ 64 → v < 2 ^ 64 → ((b : ℕ) → b < 64 → bit v b ≡ (is_open t p j b && ltb b (choices t j))) →
      checks (open_checks t p a j 0 (choices t j)) ≡ ones v
  checks_are v j few fits f =
      let n = choices t j in
      let e : 0 + n ≡ n = omega arith in
      let h = rw e at (checks_ones v j 0 n (λ x l u. f x (omega arith) ∙ (rw (lt-ltb x n (omega arith)) (and-true (is_open t p j x))))) in
      let w : v % 2 ^ n ≡ v = mod-eq_of_lt (short n 64 v few fits (λ b l u. f b u ∙ (rw (le-ltb b n l) (and-false (is_open t p j b))))) in
      omega (arith, h, ones_none v, ap ones w)

  -- ---- they are not many: a boat has 64 slots at most
  each_few : (live : Bool) (e : Event) (es : List Event) (n : ℕ) → length es ≤ n → length (each_live live e es) ≤ suc n
  each_few true e es n l = omega arith
  each_few false e es n l = omega arith

  checks_few : (j b r : ℕ) → length (open_checks t p a j b r) ≤ r
  unfolding open_checks
  checks_few j b zero = omega arith
  checks_few j b (suc r) = each_few (is_open t p j b) _ (open_checks t p a j (suc b) r) r (checks_few j (suc b) r)

  pub sweep_few : ((j : ℕ) → j < boats t → choices t j ≤ 64) → (j r : ℕ) → j + r ≤ boats t → length (open_sweep t p a j r).checks ≤ 64 * r
  unfolding open_sweep
  sweep_few few j zero l = omega arith
  sweep_few few j (suc r) l =
      by (is_listed t.pairs (length p) j) (open_stays t p a j) (sweep_few few (suc j) r (omega arith)) (omega (arith, checks_few j 0 (choices t j), few j (omega arith)))
    where
      by : (h o : Bool) → length (open_sweep t p a (suc j) r).checks ≤ 64 * r → length (open_checks t p a j 0 (choices t j)) ≤ 64 →
          length (sweep_over j (open_checks t p a j 0 (choices t j)) h o (open_sweep t p a (suc j) r)).checks ≤ 64 * suc r
      by false o rest here = omega arith
      by true true rest here = omega (arith, length-append (open_checks t p a j 0 (choices t j)) (open_sweep t p a (suc j) r).checks)
      by true false rest here = omega arith

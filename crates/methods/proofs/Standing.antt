-- Plans as lists of choices: those that stand, the first of them, and plans so far whose boats stand together.
use mathlib.Core.Path.{◌≡◌}
use mathlib.Core.List.{List, [], ◌∷◌, ◌++◌}
use Prim.Native.Nat.{ℕ, ◌≤◌, ◌<◌, zero-le}
use native.Mathlib.Omega.{arith}
use native.Mathlib.Decide.{dec_lt}
use native.Mathlib.Nat.{lt_of_lt_of_le, le_of_lt, lt_trans}
use lib.Dec.{T}
use lib.ListN.{length, take, length-append}
use lib.Seq.{length-take-le}
use Rattle.problem.specs.Tables.{Tables, boats}
use Rattle.events.specs.Events.{Ending, solved, no_plan, astray}
use Rattle.methods.specs.Choices.{choices, may_stand}
use Rattle.methods.proofs.Runs.{at, at_take, at_snoc, at_last}

module _ (t : Tables) where
  -- a whole plan of choices that may all stand
  pub record Stands (q : List ℕ) : Type 0 where
    pub long : length q ≡ boats t
    pub within : (k : ℕ) → k < boats t → at q k < choices t k
    pub fine : (h k : ℕ) → h < k → k < boats t → T (may_stand t h (at q h) k (at q k))

  -- at the lowest boat where another such plan differs from this one, this one has the lower choice
  pub record Foremost (p : List ℕ) : Type 0 where
    pub stands : Stands p
    pub first : (q : List ℕ) → Stands q → (k : ℕ) → k < length p → ((j : ℕ) → j < k → at q j ≡ at p j) → at p k ≤ at q k

  abbrev pub NoneStands : Type 0
  NoneStands = (q : List ℕ) → Stands q → ⊥

  -- what an ending says, of choices
  abbrev pub Meaning : Ending → Type 0
  Meaning (solved p) = Foremost p
  Meaning no_plan = NoneStands
  Meaning astray = ⊥

  -- ---- the placed boats stand together
  pub record Fit (p : List ℕ) : Type 0 where
    pub short : length p ≤ boats t
    pub inside : (k : ℕ) → k < length p → at p k < choices t k
    pub together : (h k : ℕ) → h < k → k < length p → T (may_stand t h (at p h) k (at p k))

  pub fit_start : Fit []
  fit_start = record { short = zero-le; inside = λ k lk. absurd (omega arith); together = λ h k lh lk. absurd (omega arith) }

  pub fit_take : (p : List ℕ) (h : ℕ) → Fit p → h < length p → Fit (take h p)
  fit_take p h f lh =
      record {
        short = rw e (omega (arith, f.short));
        inside = λ k lk. let lk' : k < h = rw e at lk in rw (at_take p h k lk') (f.inside k (lt_trans lk' lh));
        together = λ j k lj lk.
            let lk' : k < h = rw e at lk in
            rw (at_take p h k lk', at_take p h j (lt_trans lj lk')) (f.together j k lj (lt_trans lk' lh));
      }
    where
      e : length (take h p) ≡ h
      e = length-take-le h p (le_of_lt lh)

  pub fit_snoc : (p : List ℕ) (a : ℕ) → Fit p → length p < boats t → a < choices t (length p) →
      ((h : ℕ) → h < length p → T (may_stand t h (at p h) (length p) a)) → Fit (p ++ (a ∷ []))
  fit_snoc p a f lp la ok =
      record {
        short = simp length-append (omega arith);
        inside = λ k lk. w k lk (dec_lt k (length p));
        together = λ h k lh lk. g h k lh lk (dec_lt k (length p));
      }
    where
      w : (k : ℕ) → k < length (p ++ (a ∷ [])) → Dec (k < length p) → at (p ++ (a ∷ [])) k < choices t k
      w k lk (yes y) = rw (at_snoc p a k y) (f.inside k y)
      w k lk (no ny) = let e : k ≡ length p = omega (arith, simp length-append at lk) in rw (e, at_last p a) la

      g : (h k : ℕ) → h < k → k < length (p ++ (a ∷ [])) → Dec (k < length p) → T (may_stand t h (at (p ++ (a ∷ [])) h) k (at (p ++ (a ∷ [])) k))
      g h k lh lk (yes y) = rw (at_snoc p a k y, at_snoc p a h (lt_trans lh y)) (f.together h k lh y)
      g h k lh lk (no ny) =
          let e : k ≡ length p = omega (arith, simp length-append at lk) in
          let lh' : h < length p = omega arith in
          rw (e, at_last p a, at_snoc p a h lh') (ok h lh')

  pub fit_whole : (p : List ℕ) → Fit p → boats t ≤ length p → Stands p
  fit_whole p f le =
      record {
        long = omega (arith, f.short);
        within = λ k lk. f.inside k (lt_of_lt_of_le lk le);
        fine = λ h k lh lk. f.together h k lh (lt_of_lt_of_le lk le);
      }

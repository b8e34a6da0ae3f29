-- A search under its allowances, event by event: a single step, walking on past events that fit, and the first event that does not fit.
use mathlib.Core.Path.{◌≡◌, refl, ◌∙◌}
use mathlib.Core.Logic.{◌≢◌}
use mathlib.Core.List.{List, [], ◌∷◌, ◌++◌}
use Prim.Native.Nat.{ℕ, zero, suc, ◌+◌, ◌-◌, ◌≤◌, zero-le}
use native.Mathlib.Nat.{add-zero}
use native.Mathlib.Omega.{arith}
use borrow.Author.Tests.{eq-eqb, ne_eqb}
use Rattle.problem.specs.declared.Allowance.TheVariants.{Checks, Trials}
use Rattle.events.specs.Events.{Event, trial, check, Ending, trials_of, checks_of, trials, checks}
use Rattle.events.specs.Allowances.{undecided, outcome, cut_from}
use Rattle.events.proofs.Counting.{trials_append, checks_append}

-- a trial is counted when the trials made are not yet as many as allowed
cut_trial : (ca ta c t i a : ℕ) (es : List Event) (r : Ending) → t ≢ ta → cut_from ca ta c t (trial i a ∷ es) r ≡ cut_from ca ta c (suc t) es r
unfolding cut_from
cut_trial ca ta c t i a es r ne = rw (ne_eqb t ta ne, cut_from)

-- when they are, the search stops before it
pub cut_no_trial : (ca ta c t i a : ℕ) (es : List Event) (r : Ending) → t ≡ ta → cut_from ca ta c t (trial i a ∷ es) r ≡ outcome (undecided Trials) c t
unfolding cut_from
cut_no_trial ca ta c t i a es r e = rw (eq-eqb t ta e, cut_from)

-- a check is counted when the checks made are not yet as many as allowed
cut_check : (ca ta c t h x i a : ℕ) (es : List Event) (r : Ending) → c ≢ ca → cut_from ca ta c t (check h x i a ∷ es) r ≡ cut_from ca ta (suc c) t es r
unfolding cut_from
cut_check ca ta c t h x i a es r ne = rw (ne_eqb c ca ne, cut_from)

-- when they are, the search stops before it
pub cut_no_check : (ca ta c t h x i a : ℕ) (es : List Event) (r : Ending) → c ≡ ca → cut_from ca ta c t (check h x i a ∷ es) r ≡ outcome (undecided Checks) c t
unfolding cut_from
cut_no_check ca ta c t h x i a es r e = rw (eq-eqb c ca e, cut_from)

-- events that are no more than the allowances have left are counted, and the search goes on behind them
pub cut_left : (ca ta c t : ℕ) (es fs : List Event) (r : Ending) → checks es ≤ ca - c → trials es ≤ ta - t →
    cut_from ca ta c t (es ++ fs) r ≡ cut_from ca ta (c + checks es) (t + trials es) fs r
unfolding checks_of trials_of
cut_left ca ta c t [] fs r hc ht = rw (add-zero c, add-zero t)
cut_left ca ta c t (trial i a ∷ es) fs r hc ht =
    let e : t + suc (trials es) ≡ suc t + trials es = omega arith in
    cut_trial ca ta c t i a (es ++ fs) r (omega arith) ∙ rw e (cut_left ca ta c (suc t) es fs r hc (omega arith))
cut_left ca ta c t (check h x i a ∷ es) fs r hc ht =
    let e : c + suc (checks es) ≡ suc c + checks es = omega arith in
    cut_check ca ta c t h x i a (es ++ fs) r (omega arith) ∙ rw e (cut_left ca ta (suc c) t es fs r (omega arith) ht)

-- the same, said of the counts that are then reached: neither passes its allowance
pub cut_on : (ca ta c t : ℕ) (es fs : List Event) (r : Ending) → c + checks es ≤ ca → t + trials es ≤ ta →
    cut_from ca ta c t (es ++ fs) r ≡ cut_from ca ta (c + checks es) (t + trials es) fs r
cut_on ca ta c t es fs r hc ht = cut_left ca ta c t es fs r (omega arith) (omega arith)

-- events fit both allowances, or one of them is the first that finds its allowance used up: a check, or a trial
pub data Way (ca ta : ℕ) : List Event → Type 0 where
  fits : (es : List Event) → checks es ≤ ca → trials es ≤ ta → Way ca ta es
  no_check : (pre post : List Event) (h x i a : ℕ) → checks pre ≡ ca → trials pre ≤ ta → Way ca ta (pre ++ check h x i a ∷ post)
  no_trial : (pre post : List Event) (i a : ℕ) → trials pre ≡ ta → checks pre ≤ ca → Way ca ta (pre ++ trial i a ∷ post)

-- one event more in front, and that much more allowed
more : (ca ta da sa : ℕ) (e : Event) {es : List Event} → da ≡ checks (e ∷ []) + ca → sa ≡ trials (e ∷ []) + ta → Way ca ta es → Way da sa (e ∷ es)
more ca ta da sa e p q (fits es c t) = fits (e ∷ es) (omega (arith, checks_append (e ∷ []) es)) (omega (arith, trials_append (e ∷ []) es))
more ca ta da sa e p q (no_check pre post h x i a c t) = no_check (e ∷ pre) post h x i a (omega (arith, checks_append (e ∷ []) pre)) (omega (arith, trials_append (e ∷ []) pre))
more ca ta da sa e p q (no_trial pre post i a t c) = no_trial (e ∷ pre) post i a (omega (arith, trials_append (e ∷ []) pre)) (omega (arith, checks_append (e ∷ []) pre))

-- every list of events goes one of these ways
pub way : (ca ta : ℕ) (es : List Event) → Way ca ta es
unfolding checks_of trials_of
way ca ta [] = fits [] zero-le zero-le
way ca zero (trial i a ∷ es) = no_trial [] es i a refl zero-le
way ca (suc ta) (trial i a ∷ es) = more ca ta ca (suc ta) (trial i a) (omega arith) (omega arith) (way ca ta es)
way zero ta (check h x i a ∷ es) = no_check [] es h x i a refl zero-le
way (suc ca) ta (check h x i a ∷ es) = more ca ta (suc ca) ta (check h x i a) (omega arith) (omega arith) (way ca ta es)

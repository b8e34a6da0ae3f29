-- What counting makes, and where it leads: what an allowance covers is made, and what it does not cover stops the run there.
use mathlib.Core.Path.{◌≡◌, refl, sym, ap, ◌∙◌, subst}
use mathlib.Core.Bool.{Bool, true, false}
use mathlib.Core.List.{List, [], ◌∷◌, ◌++◌, append_assoc}
use Prim.Native.Nat.{ℕ, suc, ◌+◌, ◌-◌, ◌<◌}
use native.Mathlib.Omega.{arith}
use native.Mathlib.Nat.{add-zero, le_refl}
use borrow.Author.Tests.{ltb-true, ltb-false, leb-true, leb-false}
use lib.ListN.{length, length-append}
use Rattle.problem.specs.declared.Allowance.{Allowance}
use Rattle.problem.specs.declared.Allowance.TheVariants.{Checks, Trials}
use Rattle.events.specs.declared.Counts.{Counts}
use Rattle.std.specs.Prelude.{Some, None}
use Rattle.events.specs.Events.{Event, trial, check, trials_of, checks_of, trials, checks, Search, ◌then◌}
use Rattle.events.specs.Allowances.{outcome, undecided}
use Rattle.events.specs.Counts.{covered, with_checks, with_trials, trial_counted, check_counted, checks_counted, with_all_checks, Fits, counting, Makes, Leads, cut_at, UsedUp, StopsIn}
use Rattle.events.proofs.Counting.{trials_append, checks_append, length_counts}
use Rattle.events.proofs.Cutting.{cut_no_trial, cut_no_check, cut_on, Way, fits, no_check, no_trial, way}

-- ---- what a cover says
within_case : (b : Bool) (p k : Counts) → covered b p ≡ Some k → (b ≡ true) × (p ≡ k)
within_case true p k e = (refl, cc)
within_case false p k e = let z : ◌≡◌ {A = ℕ} 0 1 = cc in absurd (omega arith)

out_case : (b : Bool) (p : Counts) → covered b p ≡ None → b ≡ false
out_case true p e = let z : ◌≡◌ {A = ℕ} 0 1 = cc in absurd (omega arith)
out_case false p e = refl

-- events before events before a search
pub then_append : (es fs : List Event) (z : Search) → ((es ++ fs) then z) ≡ (es then (fs then z))
then_append es fs z = ap (λ (l : List Event). record { events = l; ending = z.ending }) (append_assoc es fs z.events)

one_trial : (i a : ℕ) (es : List Event) → trials (trial i a ∷ es) ≡ suc (trials es)
unfolding trials_of
one_trial i a es = refl

-- ---- what is made
abbrev with_counts : (m : Counts) → (c t : ℕ) → Counts
with_counts m c t = record { checks = c; trials = t; most_checks = m.most_checks; most_trials = m.most_trials }

same_counts : (m : Counts) {c c' t t' : ℕ} → c ≡ c' → t ≡ t' → with_counts m c t ≡ with_counts m c' t'
same_counts m e f = λ i. with_counts m (e i) (f i)

pub makes_none : (m : Counts) → Fits m → Makes m [] m
unfolding checks_of trials_of
makes_none m f = record { counted = sym (same_counts m (add-zero m.checks) (add-zero m.trials)); fits = f }

pub makes_append : {m k l : Counts} {es fs : List Event} → Makes m es k → Makes k fs l → Makes m (es ++ fs) l
makes_append {m} {k} {l} {es} {fs} a b =
    record {
      counted = b.counted ∙ ap (λ (n : Counts). counting n fs) a.counted
          ∙ same_counts m (omega (arith, checks_append es fs)) (omega (arith, trials_append es fs));
      fits = b.fits;
    }

pub makes_eq : {m k : Counts} {es fs : List Event} → es ≡ fs → Makes m es k → Makes m fs k
makes_eq {m} {k} e a = subst (λ (gs : List Event). Makes m gs k) e a

module _ (m k : Counts) (f : Fits m) where
  pub makes_trial : (i a : ℕ) → trial_counted m ≡ Some k → Makes m (trial i a ∷ []) k
  unfolding checks_of trials_of
  makes_trial i a e =
      let w = within_case _ (with_trials m (m.trials + 1)) k e in
      let l = ltb-true m.trials m.most_trials w.0 in
      subst (λ (n : Counts). Makes m (trial i a ∷ []) n) w.1
      (record {
        counted = same_counts m (sym (add-zero m.checks)) refl;
        fits = record { checks_fit = f.checks_fit; trials_fit = omega arith };
      })

  pub makes_check : (h x i a : ℕ) → check_counted m ≡ Some k → Makes m (check h x i a ∷ []) k
  unfolding checks_of trials_of
  makes_check h x i a e =
      let w = within_case _ (with_checks m (m.checks + 1)) k e in
      let l = ltb-true m.checks m.most_checks w.0 in
      subst (λ (n : Counts). Makes m (check h x i a ∷ []) n) w.1
      (record {
        counted = same_counts m refl (sym (add-zero m.trials));
        fits = record { checks_fit = omega arith; trials_fit = f.trials_fit };
      })

  -- many checks at once
  pub makes_checks : (ks : List Event) (due : ℕ) → trials ks ≡ 0 → checks ks ≡ due → checks_counted m due ≡ Some k → Makes m ks k
  makes_checks ks due none all e =
      let w = within_case _ (with_checks m (m.checks + due)) k e in
      let l = leb-true due (m.most_checks - m.checks) w.0 in
      subst (Makes m ks) w.1
      (record {
        counted = same_counts m (ap (λ (n : ℕ). m.checks + n) (sym all)) (sym (ap (λ (n : ℕ). m.trials + n) none ∙ add-zero m.trials));
        fits = record { checks_fit = omega (arith, f.checks_fit); trials_fit = f.trials_fit };
      })

-- ---- what is not made: one event leaves the counts, many checks use the allowance up
module _ (m : Counts) (f : Fits m) where
  pub trial_stops : (i a : ℕ) (es : List Event) → trial_counted m ≡ None → StopsIn m (trial i a ∷ es) Trials 0 m
  trial_stops i a es e =
      let l = ltb-false m.trials m.most_trials (out_case _ (with_trials m (m.trials + 1)) e) in
      record {
        before = [];
        due = trial i a;
        behind = es;
        split = refl;
        count = refl;
        makes = makes_none m f;
        used_up = (refl, omega (arith, f.trials_fit));
      }

  pub check_stops : (h x i a : ℕ) (es : List Event) → check_counted m ≡ None → StopsIn m (check h x i a ∷ es) Checks 0 m
  check_stops h x i a es e =
      let l = ltb-false m.checks m.most_checks (out_case _ (with_checks m (m.checks + 1)) e) in
      record {
        before = [];
        due = check h x i a;
        behind = es;
        split = refl;
        count = refl;
        makes = makes_none m f;
        used_up = (refl, omega (arith, f.checks_fit));
      }

  module _ (ks : List Event) (due : ℕ) (none : trials ks ≡ 0) (all : checks ks ≡ due) where
    pub checks_stop : checks_counted m due ≡ None → StopsIn m ks Checks (m.most_checks - m.checks) (with_all_checks m)
    checks_stop e = by (way (m.most_checks - m.checks) 0 ks) none all (leb-false due _ (out_case _ (with_checks m (m.checks + due)) e))
      where
        by : {es : List Event} → Way (m.most_checks - m.checks) 0 es → trials es ≡ 0 → checks es ≡ due → m.most_checks - m.checks < due →
            StopsIn m es Checks (m.most_checks - m.checks) (with_all_checks m)
        by (fits es c n) z d l = absurd (omega arith)
        by (no_trial pre post i a n c) z d l = absurd (omega (arith, trials_append pre (trial i a ∷ post), one_trial i a post))
        by (no_check pre post h x i a c n) z d l =
            record {
              before = pre;
              due = check h x i a;
              behind = post;
              split = refl;
              count = omega (arith, length_counts pre);
              makes = record {
                counted = same_counts m (omega (arith, f.checks_fit)) (omega arith);
                fits = record { checks_fit = le_refl _; trials_fit = f.trials_fit };
              };
              used_up = (refl, refl);
            }

-- the counts of what is made
module _ {m k : Counts} {es : List Event} (a : Makes m es k) where
  pub trials_made : k.trials ≡ m.trials + trials es
  trials_made = ap (λ (n : Counts). n.trials) a.counted

  pub checks_made : k.checks ≡ m.checks + checks es
  checks_made = ap (λ (n : Counts). n.checks) a.counted

  most_checks_lem : k.most_checks ≡ m.most_checks
  most_checks_lem = ap (λ (n : Counts). n.most_checks) a.counted

  most_trials_lem : k.most_trials ≡ m.most_trials
  most_trials_lem = ap (λ (n : Counts). n.most_trials) a.counted

  -- a cut goes on behind them
  pub cut_behind : (y : Search) → cut_at m (es then y) ≡ cut_at k y
  cut_behind y =
      cut_on m.most_checks m.most_trials m.checks m.trials es y.events y.ending
      (omega (arith, checks_made, most_checks_lem, a.fits.checks_fit)) (omega (arith, trials_made, most_trials_lem, a.fits.trials_fit))
      ∙ sym (ap (λ (n : Counts). cut_at n y) a.counted)

-- of checks alone, as many are made as the count of checks has risen
pub length_made : {m k : Counts} {es : List Event} → Makes m es k → trials es ≡ 0 → length es ≡ k.checks - m.checks
length_made {m} {k} {es} a z = omega (arith, length_counts es, checks_made a)

-- ---- what is not made
pub stops_behind : {m n k : Counts} {es fs : List Event} {which : Allowance} {made : ℕ} → Makes m es n → StopsIn n fs which made k → StopsIn m (es ++ fs) which (length es + made) k
stops_behind {es = es} a s =
    record {
      before = es ++ s.before;
      due = s.due;
      behind = s.behind;
      split = ap (λ (l : List Event). es ++ l) s.split ∙ sym (append_assoc es s.before (s.due ∷ s.behind));
      count = length-append es s.before ∙ ap (λ (l : ℕ). length es + l) s.count;
      makes = makes_append a s.makes;
      used_up = s.used_up;
    }

pub stops_before : {m k : Counts} {es : List Event} {which : Allowance} {made : ℕ} (fs : List Event) → StopsIn m es which made k → StopsIn m (es ++ fs) which made k
stops_before {es = es} fs s =
    record {
      before = s.before;
      due = s.due;
      behind = s.behind ++ fs;
      split = ap (λ (l : List Event). l ++ fs) s.split ∙ append_assoc s.before (s.due ∷ s.behind) fs;
      count = s.count;
      makes = s.makes;
      used_up = s.used_up;
    }

pub stops_eq : {m k : Counts} {es fs : List Event} {which : Allowance} {made : ℕ} → es ≡ fs → StopsIn m es which made k → StopsIn m fs which made k
stops_eq {m} {k} {which = which} {made = made} e s = subst (λ (gs : List Event). StopsIn m gs which made k) e s

pub stops_count : {m k : Counts} {es : List Event} {which : Allowance} {made made' : ℕ} → made ≡ made' → StopsIn m es which made k → StopsIn m es which made' k
stops_count {m} {k} {es} {which} e s = subst (λ (n : ℕ). StopsIn m es which n k) e s

-- ---- where it leads
pub leads_trans : {m k l : Counts} {x y z : Search} → Leads m x k y → Leads k y l z → Leads m x l z
leads_trans {z = z} a b =
    record {
      made = a.made ++ b.made;
      comes = a.comes ∙ ap (λ (s : Search). a.made then s) b.comes ∙ sym (then_append a.made b.made z);
      makes = makes_append a.makes b.makes;
    }

pub leads_same : {m k : Counts} {x y : Search} → Leads m x k y → cut_at m x ≡ cut_at k y
leads_same {m} {k} {x} {y} a = ap (cut_at m) a.comes ∙ cut_behind a.makes y

-- a run that stops in the events to come is undecided, with the counts reached
pub stops_cut : {m k : Counts} {es : List Event} {which : Allowance} {made : ℕ} (y : Search) → StopsIn m es which made k →
    cut_at m (es then y) ≡ outcome (undecided which) k.checks k.trials
stops_cut {m} {k} {es} {which} y s =
    ap (λ (l : List Event). cut_at m (l then y)) s.split
    ∙ ap (cut_at m) (then_append s.before (s.due ∷ s.behind) y)
    ∙ cut_behind s.makes ((s.due ∷ s.behind) then y)
    ∙ by s.due s.used_up
  where
    by : (e : Event) → UsedUp k e which → cut_at k ((e ∷ s.behind) then y) ≡ outcome (undecided which) k.checks k.trials
    by (trial i a) u = cut_no_trial _ _ _ _ i a _ _ u.1 ∙ ap (λ (x : Allowance). outcome (undecided x) k.checks k.trials) (sym u.0)
    by (check h x i a) u = cut_no_check _ _ _ _ h x i a _ _ u.1 ∙ ap (λ (x : Allowance). outcome (undecided x) k.checks k.trials) (sym u.0)

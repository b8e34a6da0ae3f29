-- The laws of the allowances. (Document 01, 'Counting'.)
use mathlib.Core.Path.{◌≡◌, refl, sym, ap, ◌∙◌}
use mathlib.Core.Logic.{◌⊎◌, inl, inr}
use mathlib.Core.List.{List, [], ◌++◌, append-nil}
use Prim.Native.Nat.{ℕ, ◌≤◌}
use native.Mathlib.Nat.{zero-add}
use native.Mathlib.Omega.{arith}
use lib.ListN.{take, drop, take-append-drop}
use Rattle.problem.specs.declared.Allowance.TheVariants.{Checks, Trials}
use Rattle.events.specs.Events.{Event, Ending, Search, trials, checks}
use Rattle.events.specs.Allowances.{Decision, decided, undecided, outcome, cut_from, cut}
use Rattle.events.specs.Undecided.{OutOfChecks, OutOfTrials}
use Rattle.events.proofs.Cutting.{cut_no_trial, cut_no_check, cut_on, Way, fits, no_check, no_trial, way}

-- a search of which ca checks and ta trials are allowed
module _ (ca ta : ℕ) (s : Search) where
  -- events that fit are counted from nothing
  past : (pre fs : List Event) → checks pre ≤ ca → trials pre ≤ ta → cut_from ca ta 0 0 (pre ++ fs) s.ending ≡ cut_from ca ta (checks pre) (trials pre) fs s.ending
  past pre fs p q = simp zero-add at (cut_on ca ta 0 0 pre fs s.ending (omega arith) (omega arith))

  -- a search that fits both allowances, be it exactly, is decided: with its own ending, and all that it made as its counts
  pub fits_decides : checks s.events ≤ ca → trials s.events ≤ ta → cut ca ta s ≡ outcome (decided s.ending) (checks s.events) (trials s.events)
  unfolding cut cut_from
  fits_decides p q = rw append-nil at (past s.events [] p q)

  -- a search that comes to a check when the checks are used up is undecided by checks
  pub undecided_checks : (c t : ℕ) → OutOfChecks ca ta s c t → cut ca ta s ≡ outcome (undecided Checks) c t
  unfolding cut
  undecided_checks c t o = rw (o.split, o.made, o.tried) (past o.pre _ (omega arith) o.within ∙ cut_no_check _ _ _ _ _ _ _ _ _ _ o.full)

  -- a search that comes to a trial when the trials are used up is undecided by trials
  pub undecided_trials : (c t : ℕ) → OutOfTrials ca ta s c t → cut ca ta s ≡ outcome (undecided Trials) c t
  unfolding cut
  undecided_trials c t o = rw (o.split, o.made, o.tried) (past o.pre _ o.within (omega arith) ∙ cut_no_trial _ _ _ _ _ _ _ _ o.full)

  -- what each decision says of the search
  abbrev Told : Decision → (c t : ℕ) → Type 0
  Told (decided r) c t = (checks s.events ≤ ca) × (trials s.events ≤ ta) × (r ≡ s.ending) × (c ≡ checks s.events) × (t ≡ trials s.events)
  Told (undecided Checks) c t = OutOfChecks ca ta s c t
  Told (undecided Trials) c t = OutOfTrials ca ta s c t

  -- every outcome says it rightly
  told : Told (cut ca ta s).decision (cut ca ta s).checks (cut ca ta s).trials
  told = by (way ca ta s.events) refl
    where
      by : {es : List Event} → Way ca ta es → s.events ≡ es → Told (cut ca ta s).decision (cut ca ta s).checks (cut ca ta s).trials
      by (fits es p q) e = rw (fits_decides (rw e p) (rw e q)) (rw e p, rw e q, refl, refl, refl)
      by (no_check pre post h x i a p q) e =
          let o : OutOfChecks ca ta s (checks pre) (trials pre) = record { pre = pre; post = post; h = h; x = x; i = i; a = a; split = e; full = p; within = q; made = refl; tried = refl } in
          rw (undecided_checks _ _ o) o
      by (no_trial pre post i a p q) e =
          let o : OutOfTrials ca ta s (checks pre) (trials pre) = record { pre = pre; post = post; i = i; a = a; split = e; full = p; within = q; made = refl; tried = refl } in
          rw (undecided_trials _ _ o) o

  -- a decided search fits both allowances, and its ending and its counts are the search's own
  pub decided_fits : (r : Ending) → (cut ca ta s).decision ≡ decided r
      → (checks s.events ≤ ca) × (trials s.events ≤ ta) × (r ≡ s.ending) × ((cut ca ta s).checks ≡ checks s.events) × ((cut ca ta s).trials ≡ trials s.events)
  decided_fits r e = rw e at told

  -- a search that is undecided by checks came to a check when the checks were used up
  pub checks_undecided : (c t : ℕ) → cut ca ta s ≡ outcome (undecided Checks) c t → OutOfChecks ca ta s c t
  checks_undecided c t e = rw e at told

  -- a search that is undecided by trials came to a trial when the trials were used up
  pub trials_undecided : (c t : ℕ) → cut ca ta s ≡ outcome (undecided Trials) c t → OutOfTrials ca ta s c t
  trials_undecided c t e = rw e at told

  -- every search is decided, with its own ending, or undecided by checks, or undecided by trials
  pub three_ways : ((cut ca ta s).decision ≡ decided s.ending) ⊎ ((cut ca ta s).decision ≡ undecided Checks) ⊎ ((cut ca ta s).decision ≡ undecided Trials)
  three_ways = by (cut ca ta s).decision told
    where
      by : (d : Decision) → Told d (cut ca ta s).checks (cut ca ta s).trials → (d ≡ decided s.ending) ⊎ (d ≡ undecided Checks) ⊎ (d ≡ undecided Trials)
      by (decided r) w = inl (ap decided w.2)
      by (undecided Checks) w = inr (inl refl)
      by (undecided Trials) w = inr (inr refl)

  -- no count passes its allowance, so none can wrap
  pub within_allowances : ((cut ca ta s).checks ≤ ca) × ((cut ca ta s).trials ≤ ta)
  within_allowances = by (cut ca ta s).decision told
    where
      by : (d : Decision) → Told d (cut ca ta s).checks (cut ca ta s).trials → ((cut ca ta s).checks ≤ ca) × ((cut ca ta s).trials ≤ ta)
      by (decided r) w = omega arith
      by (undecided Checks) w = omega arith
      by (undecided Trials) w = omega arith

  -- a search that is taken up again after its first k events, with their counts, comes to the outcome of the whole search
  pub resumed : (k : ℕ) → checks (take k s.events) ≤ ca → trials (take k s.events) ≤ ta →
      cut ca ta s ≡ cut_from ca ta (checks (take k s.events)) (trials (take k s.events)) (drop k s.events) s.ending
  unfolding cut
  resumed k p q = rw take-append-drop at (past (take k s.events) (drop k s.events) p q)

-- raising an allowance never changes a decision or its counts
pub raising : (ca ta ca' ta' : ℕ) (s : Search) (r : Ending) → ca ≤ ca' → ta ≤ ta' → (cut ca ta s).decision ≡ decided r → cut ca' ta' s ≡ cut ca ta s
raising ca ta ca' ta' s r hc ht e =
    let w = decided_fits ca ta s r e in
    fits_decides ca' ta' s (omega arith) (omega arith) ∙ sym (fits_decides ca ta s w.0 w.1)

-- allowances that are enough for a search are enough for one that makes no more of either and ends the same: same decision, no more of either count
pub enough : (ca ta : ℕ) (s u : Search) (r : Ending) → checks u.events ≤ checks s.events → trials u.events ≤ trials s.events → u.ending ≡ s.ending → (cut ca ta s).decision ≡ decided r
    → ((cut ca ta u).decision ≡ decided r) × ((cut ca ta u).checks ≤ (cut ca ta s).checks) × ((cut ca ta u).trials ≤ (cut ca ta s).trials)
enough ca ta s u r hc ht q e =
    let w = decided_fits ca ta s r e in
    rw (fits_decides ca ta u (omega arith) (omega arith)) (ap decided (q ∙ sym w.2), omega arith, omega arith)

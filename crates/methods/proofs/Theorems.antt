-- THE THEOREMS ON THE METHODS that a reader is shown: demand 2 and demand 3 of each method's definition, under any allowances.
use mathlib.Core.Path.{◌≡◌, sym, subst}
use mathlib.Core.List.{List}
use Prim.Native.Nat.{ℕ, ◌≤◌, ◌<◌}
use lib.Dec.{T}
use lib.ListN.{length}
use Rattle.problem.specs.Tables.{Tables}
use Rattle.problem.specs.Sane.{Sane}
use Rattle.problem.specs.declared.Method.{Method}
use Rattle.problem.specs.declared.Method.TheVariants.{Bt, Cbj, Bm, Fc, FcCbj}
use Rattle.events.specs.Events.{Ending, solved, no_plan, astray, Search, trials, checks}
use Rattle.events.specs.Allowances.{decided, cut}
use Rattle.events.proofs.Laws.{decided_fits, raising, enough}
use Rattle.methods.specs.Machine.{search}
use Rattle.methods.specs.Moves.{stepping}
use Rattle.methods.specs.BT.{looking_back, bt}
use Rattle.methods.specs.CBJ.{Jumping, to_blame, jumping, cbj}
use Rattle.methods.specs.BM.{no_marks, bm}
use Rattle.methods.specs.FC.{Strikes, looking_ahead, fc}
use Rattle.methods.specs.FCCBJ.{fccbj}
use Rattle.methods.specs.Methods.{search_by}
use Rattle.methods.specs.Promises.{Means, Saves, cbj_for_bt, bm_for_bt, fc_cbj_for_fc}
use Rattle.methods.proofs.Runs.{runs}
use Rattle.methods.proofs.Standing.{Meaning, fit_start}
use Rattle.methods.proofs.Sound.{behind_start, sound_start}
use Rattle.methods.specs.Reached.{Reached}
use Rattle.methods.proofs.Members.{members_below, to_blame_below_lem}
use Rattle.methods.proofs.Cheaper.{plain_cheaper}
use Rattle.methods.proofs.Demands.{step_means, jump_means, jump_cheaper}
use Rattle.methods.proofs.Backward.{back_honest, back_placed}
use Rattle.methods.proofs.Marked.{Marked, marked_start, marks_justified, marks_none_wait, marks_few_trials, marks_few_checks}
use Rattle.methods.specs.ByPlan.{ahead_by_plan}
use Rattle.methods.proofs.Ahead.{ahead_honest}
use Rattle.methods.proofs.AheadMembers.{StruckByPlaced, ahead_placed}
use Rattle.methods.proofs.AheadSame.{fc_searches, fccbj_searches}
use Rattle.methods.proofs.Shown.{shown_is, none_no_plan, foremost_first}

-- ---- each method's search in choices, and what it means there
abbrev chosen : Method → Tables → Search
chosen Bt t = search t (bt t)
chosen Cbj t = search t (cbj t)
chosen Bm t = search t (bm t)
chosen Fc t = search t (fc t)
chosen FcCbj t = search t (fccbj t)

pub searched : (method : Method) (t : Tables) → search_by method t ≡ chosen method t
unfolding search_by
searched Bt t = shown_is t (search t (bt t))
searched Cbj t = shown_is t (search t (cbj t))
searched Bm t = shown_is t (search t (bm t))
searched Fc t = shown_is t (search t (fc t))
searched FcCbj t = shown_is t (search t (fccbj t))

chosen_means : (method : Method) (t : Tables) → Meaning t (chosen method t).ending
unfolding bt cbj bm
chosen_means Bt t = step_means t (looking_back t) (back_honest t) (runs t (stepping (looking_back t)))
chosen_means Cbj t = jump_means t (looking_back t) (back_honest t) (runs t (jumping t (looking_back t)))
chosen_means Bm t = sound_start t (looking_back t) (back_honest t) (bm t) (Marked t) (marks_justified t) no_marks (marked_start t) (runs t (bm t))
chosen_means Fc t =
    subst (λ (s : Search). Meaning t s.ending) (sym (fc_searches t))
    (step_means t (ahead_by_plan t) (ahead_honest t) (runs t (stepping (ahead_by_plan t))))
chosen_means FcCbj t =
    subst (λ (s : Search). Meaning t s.ending) (sym (fccbj_searches t))
    (jump_means t (ahead_by_plan t) (ahead_honest t) (runs t (jumping t (ahead_by_plan t))))

meaning_means : (t : Tables) → Sane t → (r : Ending) → Meaning t r → Means t r
meaning_means t s (solved p) m = foremost_first t s p m
meaning_means t s no_plan m = none_no_plan t m
meaning_means t s astray m = m

-- ---- DEMAND 2
-- on tables that keep every rule every method ends with the first lawful plan, or with 'no plan' where none exists
pub ends_rightly : (method : Method) (t : Tables) → Sane t → Means t (search_by method t).ending
ends_rightly method t f = rw (searched method t) (meaning_means t f (chosen method t).ending (chosen_means method t))

-- and so does every decision under allowances
pub decides_rightly : (method : Method) (t : Tables) → Sane t → (ca ta : ℕ) (r : Ending) → (cut ca ta (search_by method t)).decision ≡ decided r → Means t r
decides_rightly method t f ca ta r e = rw (decided_fits ca ta (search_by method t) r e).2 (ends_rightly method t f)

-- ---- DEMAND 3
NoMore : Search → Search → Type 0
NoMore s u = (s.ending ≡ u.ending) × (trials s.events ≤ trials u.events) × (checks s.events ≤ checks u.events)

no_more : {method plain : Method} → Saves method plain → (t : Tables) → NoMore (chosen method t) (chosen plain t)
unfolding bt cbj bm NoMore
no_more cbj_for_bt t = jump_cheaper t (looking_back t) (back_honest t) (runs t (jumping t (looking_back t))) (runs t (stepping (looking_back t)))
no_more bm_for_bt t =
    plain_cheaper t (looking_back t) (back_honest t) (bm t) (Marked t) (marks_justified t)
    (record { none_wait = marks_none_wait t; few_trials = marks_few_trials t; few_checks = marks_few_checks t })
    (runs t (bm t)) (record { fit = fit_start t; behind = behind_start t; inv = marked_start t }) (runs t (stepping (looking_back t)))
no_more fc_cbj_for_fc t =
    rw (fc_searches t, fccbj_searches t)
    (jump_cheaper t (ahead_by_plan t) (ahead_honest t) (runs t (jumping t (ahead_by_plan t))) (runs t (stepping (ahead_by_plan t))))

-- whatever allowances let the plain method decide let the other decide, with the same answer and plan and no more checks or trials
pub saves_only : {method plain : Method} → Saves method plain → (t : Tables) (ca ta : ℕ) (r : Ending) → (cut ca ta (search_by plain t)).decision ≡ decided r →
    ((cut ca ta (search_by method t)).decision ≡ decided r)
    × ((cut ca ta (search_by method t)).checks ≤ (cut ca ta (search_by plain t)).checks)
    × ((cut ca ta (search_by method t)).trials ≤ (cut ca ta (search_by plain t)).trials)
unfolding NoMore
saves_only {method} {plain} s t ca ta r e =
    let n = no_more s t in
    rw (searched method t, searched plain t)
    (enough ca ta (chosen plain t) (chosen method t) r n.2 n.1 n.0 (rw (searched plain t) at e))

-- raising an allowance never changes a decision or its counts
pub raising_changes_nothing : (method : Method) (t : Tables) (ca ta ca' ta' : ℕ) (r : Ending) → ca ≤ ca' → ta ≤ ta' →
    (cut ca ta (search_by method t)).decision ≡ decided r → cut ca' ta' (search_by method t) ≡ cut ca ta (search_by method t)
raising_changes_nothing method t ca ta ca' ta' r lc lt e = raising ca ta ca' ta' (search_by method t) r lc lt e

-- ---- JUMPS GO BACK
-- in every place that a search reaches, the members of a boat's set are below the boat
pub members_below_cbj : (t : Tables) {p : List ℕ} {a : ℕ} {σ : Jumping (Unit {0})} → Reached t (cbj t) p a σ → (k j : ℕ) → T (σ.sets k j) → j < k
unfolding cbj
members_below_cbj t r = members_below t (looking_back t) (λ p σ. Unit {0}) (back_placed t) r

pub members_below_fccbj : (t : Tables) {p : List ℕ} {a : ℕ} {σ : Jumping Strikes} → Reached t (fccbj t) p a σ → (k j : ℕ) → T (σ.sets k j) → j < k
unfolding fccbj
members_below_fccbj t r = members_below t (looking_ahead t) StruckByPlaced (ahead_placed t) r

-- and so are all the boats of which the deepest is jumped to: the set of the boat at hand, with its blamers
pub to_blame_below_cbj : (t : Tables) {p : List ℕ} {a : ℕ} {σ : Jumping (Unit {0})} → Reached t (cbj t) p a σ →
    (j : ℕ) → T (to_blame (looking_back t) σ p j) → j < length p
unfolding cbj
to_blame_below_cbj t r = to_blame_below_lem t (looking_back t) (λ p σ. Unit {0}) (back_placed t) r

pub to_blame_below_fccbj : (t : Tables) {p : List ℕ} {a : ℕ} {σ : Jumping Strikes} → Reached t (fccbj t) p a σ →
    (j : ℕ) → T (to_blame (looking_ahead t) σ p j) → j < length p
unfolding fccbj
to_blame_below_fccbj t r = to_blame_below_lem t (looking_ahead t) StruckByPlaced (ahead_placed t) r

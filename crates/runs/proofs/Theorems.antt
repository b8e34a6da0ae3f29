-- THE THEOREMS ON `run` that a reader is shown: the three demands, of its reply and of the lent memory, for every input. (`run` promises that its reply
-- and the memory that it leaves are `run_result`, in specs/Runs.antt.) The answers are 0 solved, 1 no plan, 2 undecided by checks, 3 undecided by trials;
-- refusals count from 100.
use mathlib.Core.Path.{◌≡◌, refl, sym, ap, ◌∙◌, subst}
use mathlib.Core.Logic.{◌⊎◌, inl, inr, ⊎_elim}
use mathlib.Core.List.{List, []}
use Prim.Native.Nat.{ℕ, ◌≤◌, ◌<◌}
use native.Mathlib.Omega.{arith}
use lib.Dec.{ltb}
use lib.ListN.{length, take, drop}
use lib.Seq.{take_at}
use Rattle.problem.specs.Tables.{Tables, boats}
use Rattle.problem.specs.Plans.{First, NoPlan}
use Rattle.problem.specs.Methods.{method_numbered}
use Rattle.problem.specs.Replies.{Told, told}
use Rattle.problem.specs.declared.Method.{Method}
use Rattle.std.specs.Prelude.{Some}
use Rattle.problem.proofs.Plans.{first_unique}
use Rattle.tables.specs.Tests.{Test, first_of}
use Rattle.tables.specs.Applies.{NoneApplies, Gives}
use Rattle.tables.proofs.Laws.{gives_refused, gives_first, first_gives}
use Rattle.events.specs.Events.{Search, checks_of, trials_of}
use Rattle.events.specs.Allowances.{decided, Outcome, cut}
use Rattle.events.specs.Undecided.{OutOfChecks, OutOfTrials}
use Rattle.events.proofs.Laws.{fits_decides, decided_fits, undecided_checks, checks_undecided, undecided_trials, trials_undecided, within_allowances}
use Rattle.methods.specs.Methods.{search_by}
use Rattle.methods.specs.Promises.{Saves}
use Rattle.methods.proofs.Theorems.{saves_only, raising_changes_nothing}
use Rattle.words.specs.Layout.{word}
use Rattle.words.proofs.Zeroed.{zeroed_at, zeroed_long, zeroed_later}
use Rattle.runs.specs.Runs.{run_tests, refusal_of_run, Result, refused_result, decision_told, finished_result, run_result}
use Rattle.runs.specs.Promises.{OneOfFour, Leaves, Alike}
use Rattle.runs.proofs.Refusing.{result_refused, same_but_words}
use Rattle.runs.proofs.Accepting.{Accepted, accepted, elsewhere, under, four_small, decided_small, out, searches, outcome_is, decided_is, means, answers, plan_is, writes_first, plan_same, plan_long, plan_later}

module _ (method : ℕ) (t : Tables) (plan work : List ℕ) (checks trials : ℕ) where
  abbrev reply : Result
  reply = run_result method t plan work checks trials

  abbrev all : List Test
  all = run_tests method t (length plan) (length work)

  accepts : NoneApplies all → Accepted method t plan work checks trials
  accepts = accepted method t plan work checks trials

  -- ---- DEMAND 1
  -- the first test that applies speaks, where it does so first; the counts are 0 and nothing lent has changed
  pub run_refuses_first : (why : Told) → Gives all why → reply ≡ refused_result why plan work
  unfolding refusal_of_run
  run_refuses_first why g = result_refused method t plan work checks trials (gives_first all (told 0 []) why g) (gives_refused all why g)

  -- where none applies the method's search is made, cut by the allowances
  pub run_searches : NoneApplies all → (chosen : Method) → method_numbered method ≡ Some chosen → reply ≡ finished_result (cut checks trials (search_by chosen t)) plan work
  run_searches n chosen known = searches (under (accepts n) known)

  -- and such a run is not refused
  pub run_not_refused : NoneApplies all → reply.answer.number < 100
  run_not_refused n = omega (arith, four_small reply.answer (answers (accepts n)))

  one_or_none : NoneApplies all ⊎ Gives all reply.answer
  one_or_none =
      ⊎_elim inl
      (λ g. inr (subst (Gives all) (ap (λ (r : Result). r.answer) (sym (run_refuses_first (first_of all (told 0 [])) g))) g))
      (first_gives all (told 0 []))

  -- no refusal without its cause: it is what the first test that applies says, where it does so first
  pub run_refusal_has_cause : 100 ≤ reply.answer.number → Gives all reply.answer
  run_refusal_has_cause l = ⊎_elim (λ n. absurd (omega (arith, run_not_refused n))) (λ g. g) one_or_none

  -- and where a run is not refused no test applies
  pub run_unrefused_no_cause : reply.answer.number < 100 → NoneApplies all
  run_unrefused_no_cause l = ⊎_elim (λ n. n) (λ g. absurd (omega (arith, gives_refused all reply.answer g))) one_or_none

  -- a refusal has counts 0 and changes no lent memory
  pub run_refusal_changes_nothing : 100 ≤ reply.answer.number → reply ≡ refused_result reply.answer plan work
  run_refusal_changes_nothing l = run_refuses_first reply.answer (run_refusal_has_cause l)

  -- a run that is not refused answers one of: solved, no plan, undecided by checks, undecided by trials
  pub run_answers_one_of_four : reply.answer.number < 100 → OneOfFour reply.answer
  run_answers_one_of_four l = answers (accepts (run_unrefused_no_cause l))

  -- after all four its memory is left as `Leaves` says
  pub run_leaves : reply.answer.number < 100 → Leaves t plan work reply
  run_leaves l =
      let a = accepts (run_unrefused_no_cause l) in
      record {
        not_solved = plan_same a;
        later_bytes = plan_later a;
        plan_bytes = plan_long a;
        zero_words = λ k lk. rw (searches a) (zeroed_at 8192 k work lk);
        later_words = rw (searches a) (zeroed_later 8192 work);
        work_words = rw (searches a) (zeroed_long 8192 work a.work_room);
      }

  -- no count passes its allowance, so none can wrap
  pub run_within_allowances : (reply.checks ≤ checks) × (reply.trials ≤ trials)
  run_within_allowances =
      ⊎_elim (λ n. rw (searches (accepts n)) (within_allowances checks trials _)) (λ g. rw (run_refuses_first reply.answer g) (omega arith)) one_or_none

  -- ---- DEMAND 2
  -- the first n bytes of a solved run are the first lawful plan, and the others are as they were
  pub run_solves_first : reply.answer ≡ told 0 [] → First t (take (boats t) reply.plan) × (drop (boats t) reply.plan ≡ drop (boats t) plan)
  run_solves_first e =
      let z : reply.answer.number ≡ 0 = ap (λ (x : Told). x.number) e in
      let a = accepts (run_unrefused_no_cause (omega arith)) in
      let f = writes_first a z in
      (rw (plan_is a, take_at _ _ (boats t) f.lawful.is_plan.complete) f, plan_later a)

  -- 'no plan' only where none exists
  pub run_no_plan_is_none : reply.answer ≡ told 1 [] → NoPlan t
  run_no_plan_is_none e =
      let z : reply.answer.number ≡ 1 = ap (λ (x : Told). x.number) e in
      let a = accepts (run_unrefused_no_cause (omega arith)) in
      means a (ap (λ (o : Outcome). o.decision) (outcome_is a z))

  -- the events of the method's own search
  module _ (chosen : Method) (known : method_numbered method ≡ Some chosen) where
    abbrev own : Search
    own = search_by chosen t

    abbrev asked : reply.answer.number < 100 → Accepted method t plan work checks trials
    asked l = under (accepts (run_unrefused_no_cause l)) known

    comes_of : NoneApplies all → {o : Outcome} → cut checks trials own ≡ o → reply ≡ finished_result o plan work
    comes_of n e = run_searches n chosen known ∙ ap (λ (x : Outcome). finished_result x plan work) e

    -- a run is decided where its checks and its trials fit the allowances, be it exactly
    pub run_fit_decides : NoneApplies all → length (checks_of own.events) ≤ checks → length (trials_of own.events) ≤ trials → reply.answer.number < 2
    run_fit_decides n lc lt =
        let f = fits_decides checks trials own lc lt in
        rw (comes_of n f) (decided_small own.ending (λ e. means (asked (run_not_refused n)) (ap (λ (o : Outcome). o.decision) f ∙ ap decided e)))

    -- and where it is decided its counts are the lengths of both lists, and these fit
    pub run_decided_counts : reply.answer.number < 2 →
        (reply.checks ≡ length (checks_of own.events)) × (reply.trials ≡ length (trials_of own.events))
        × (length (checks_of own.events) ≤ checks) × (length (trials_of own.events) ≤ trials)
    run_decided_counts l =
        let a = asked (omega arith) in
        let d = decided_is a l in
        let w = decided_fits checks trials own d.ending d.is in
        rw (searches a) (w.3, w.4, w.0, w.1)

    -- it is undecided by checks where a check comes when the checks are used up: the counts are those of the events before it
    pub run_out_of_checks : NoneApplies all → (c k : ℕ) → OutOfChecks checks trials own c k → (reply.answer ≡ told 2 []) × (reply.checks ≡ c) × (reply.trials ≡ k)
    run_out_of_checks n c k o = rw (comes_of n (undecided_checks checks trials own c k o)) (refl, refl, refl)

    -- and nowhere else
    pub run_undecided_by_checks : reply.answer ≡ told 2 [] → OutOfChecks checks trials own reply.checks reply.trials
    run_undecided_by_checks e =
        let z : reply.answer.number ≡ 2 = ap (λ (x : Told). x.number) e in
        checks_undecided checks trials own reply.checks reply.trials (outcome_is (asked (omega arith)) z)

    -- it is undecided by trials where a trial comes when the trials are used up: the counts are those of the events before it
    pub run_out_of_trials : NoneApplies all → (c k : ℕ) → OutOfTrials checks trials own c k → (reply.answer ≡ told 3 []) × (reply.checks ≡ c) × (reply.trials ≡ k)
    run_out_of_trials n c k o = rw (comes_of n (undecided_trials checks trials own c k o)) (refl, refl, refl)

    -- and nowhere else
    pub run_undecided_by_trials : reply.answer ≡ told 3 [] → OutOfTrials checks trials own reply.checks reply.trials
    run_undecided_by_trials e =
        let z : reply.answer.number ≡ 3 = ap (λ (x : Told). x.number) e in
        trials_undecided checks trials own reply.checks reply.trials (outcome_is (asked (omega arith)) z)

-- ---- DEMAND 1, of two runs that differ in their words alone
module _ (method : ℕ) (t : Tables) (plan work work' : List ℕ) (checks trials : ℕ) where
  abbrev one : Result
  one = run_result method t plan work checks trials

  abbrev other : Result
  other = run_result method t plan work' checks trials

  -- what the words held before has no effect: both may be enough, or both too few
  pub run_ignores_words : ltb (length work') 8192 ≡ ltb (length work) 8192 →
      (other.answer ≡ one.answer) × (other.checks ≡ one.checks) × (other.trials ≡ one.trials) × (other.plan ≡ one.plan)
      × (one.answer.number < 100 → (k : ℕ) → k < 8192 → word other.work k ≡ word one.work k)
  run_ignores_words e =
      let same = same_but_words method t plan work work' checks trials e in
      let answer = ap (λ (r : Result). r.answer) same in (
        answer,
        ap (λ (r : Result). r.checks) same,
        ap (λ (r : Result). r.trials) same,
        ap (λ (r : Result). r.plan) same,
        λ l k lk. (run_leaves method t plan work' checks trials (rw answer l)).zero_words k lk ∙ sym ((run_leaves method t plan work checks trials l).zero_words k lk),
      )

-- ---- DEMAND 3, of two runs on the same tables. The first is decided in its memory, and the second's own is long enough
module _ (t : Tables) (plan work plan' work' : List ℕ) (plan_room : boats t ≤ length plan') (work_room : 8192 ≤ length work') (checks trials : ℕ) where
  -- two searches that come to one decision
  alike : {method again checks' trials' : ℕ} (a : Accepted method t plan work checks trials) (b : Accepted again t plan' work' checks' trials') → (out b).decision ≡ (out a).decision →
      Alike t plan work (run_result method t plan work checks trials) plan' work' (run_result again t plan' work' checks' trials')
  alike {method} {again} {checks'} {trials'} a b e =
      let same = ap (λ (r : Result). r.answer) (searches b) ∙ ap decision_told e ∙ ap (λ (r : Result). r.answer) (sym (searches a)) in
      record {
        same_answer = same;
        same_bytes = λ s. first_unique t _ _ (run_solves_first again t plan' work' checks' trials' (same ∙ s)).0 (run_solves_first method t plan work checks trials s).0;
        leaves = run_leaves method t plan work checks trials (omega (arith, four_small _ (answers a)));
        leaves' = run_leaves again t plan' work' checks' trials' (omega (arith, four_small _ (answers b)));
      }

  -- what the plain method decides the other decides too, with the same answer and bytes, and no more checks or trials
  pub run_saves_only : {quicker slower : Method} → Saves quicker slower → (plain other : ℕ) → method_numbered plain ≡ Some slower → method_numbered other ≡ Some quicker →
      let slow = run_result plain t plan work checks trials in
      let quick = run_result other t plan' work' checks trials in
      slow.answer.number < 2 → Alike t plan work slow plan' work' quick × (quick.checks ≤ slow.checks) × (quick.trials ≤ slow.trials)
  run_saves_only {quicker} {slower} s plain other kp ko l =
      let a = asked plain t plan work checks trials slower kp (omega arith) in
      let b : Accepted other t plan' work' checks trials = elsewhere a ko plan_room work_room in
      let d = decided_is a l in
      let v = saves_only s t checks trials d.ending d.is in
      (alike a b (v.0 ∙ sym d.is), rw (searches a, searches b) v.1, rw (searches a, searches b) v.2)

  -- raising an allowance never changes a decision, its bytes or its counts
  pub run_raising : (method checks' trials' : ℕ) → checks ≤ checks' → trials ≤ trials' →
      let low = run_result method t plan work checks trials in
      let high = run_result method t plan' work' checks' trials' in
      low.answer.number < 2 → Alike t plan work low plan' work' high × (high.checks ≡ low.checks) × (high.trials ≡ low.trials)
  run_raising method checks' trials' lc lt l =
      let a = accepts method t plan work checks trials (run_unrefused_no_cause method t plan work checks trials (omega arith)) in
      let b : Accepted method t plan' work' checks' trials' = elsewhere a a.known plan_room work_room in
      let d = decided_is a l in
      let same = raising_changes_nothing a.chosen t checks trials checks' trials' d.ending lc lt d.is in (
        alike a b (ap (λ (o : Outcome). o.decision) same),
        rw (searches a, searches b) (ap (λ (o : Outcome). o.checks) same),
        rw (searches a, searches b) (ap (λ (o : Outcome). o.trials) same),
      )

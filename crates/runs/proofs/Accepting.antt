-- A run that is not refused: what holds of its input, which search it makes, and what the decision tells and writes.
use mathlib.Core.Path.{◌≡◌, refl, sym, ap, ◌∙◌}
use mathlib.Core.Logic.{inl, inr}
use mathlib.Core.List.{List, [], ◌∷◌, ◌++◌}
use Prim.Native.Nat.{ℕ, zero, suc, ◌+◌, ◌-◌, ◌≤◌, ◌<◌}
use native.Mathlib.Omega.{arith}
use borrow.Author.Tests.{ltb-false, le-ltb}
use lib.Dec.{ltb}
use lib.ListN.{length, get_or, drop, length-append, length-drop}
use lib.Seq.{drop-append-add, drop-drop}
use Rattle.problem.specs.Tables.{Tables, boats}
use Rattle.problem.specs.Plans.{First}
use Rattle.problem.specs.Methods.{method_numbered}
use Rattle.problem.specs.Replies.{Told}
use Rattle.problem.specs.declared.Allowance.TheVariants.{Checks, Trials}
use Rattle.problem.specs.declared.Method.{Method}
use Rattle.std.specs.Prelude.{Option, Some, None}
use Rattle.tables.specs.Tests.{Test, once}
use Rattle.tables.specs.Applies.{NoneApplies, none, nor}
use Rattle.tables.specs.Examination.{tests, Fine}
use Rattle.tables.proofs.Fine.{fine_sane}
use Rattle.tables.proofs.Laws.{none_is_fine}
use Rattle.events.specs.Events.{Ending, solved, no_plan, astray}
use Rattle.events.specs.Allowances.{Decision, decided, undecided, Outcome, outcome, cut}
use Rattle.methods.specs.Methods.{search_by}
use Rattle.methods.specs.Promises.{Means}
use Rattle.methods.proofs.Theorems.{decides_rightly}
use Rattle.runs.specs.Runs.{run_tests, Result, decision_told, written, finished_result, run_result}
use Rattle.runs.specs.Promises.{OneOfFour}
use Rattle.runs.proofs.Refusing.{unknown_refused, says_nothing, result_finished}

-- ---- the whole input of a run, with no test that applies
pub record Accepted (method : ℕ) (t : Tables) (plan work : List ℕ) (checks trials : ℕ) : Type 0 where
  pub chosen : Method
  pub known : method_numbered method ≡ Some chosen
  pub fine : Fine t
  pub plan_room : boats t ≤ length plan
  pub work_room : 8192 ≤ length work

none_parts : (pre post : List Test) → NoneApplies (pre ++ post) → NoneApplies pre × NoneApplies post
none_parts [] post n = (none, n)
none_parts (test ∷ pre) post (nor f n) = let m = none_parts pre post n in (nor f m.0, m.1)

module _ (method : ℕ) (t : Tables) (plan work : List ℕ) (checks trials : ℕ) where
  pub accepted : NoneApplies (run_tests method t (length plan) (length work)) → Accepted method t plan work checks trials
  accepted (nor one later) = let m = none_parts (tests t) _ later in by (method_numbered method) refl m.0 m.1
    where
      by : (x : Option Method) → method_numbered method ≡ x → NoneApplies (tests t) → NoneApplies (once 8 (ltb (length plan) (boats t)) ∷ once 9 (ltb (length work) 8192) ∷ []) →
          Accepted method t plan work checks trials
      by (Some chosen) e n (nor eight (nor nine none)) =
          record {
            chosen = chosen;
            known = e;
            fine = none_is_fine t n;
            plan_room = ltb-false _ _ (eight 0 (omega arith));
            work_room = ltb-false _ _ (nine 0 (omega arith));
          }
      by None e n m =
          let p = unknown_refused method e in
          let q = one 0 (omega arith) in
          let z : ◌≡◌ {A = ℕ} 0 1 = cc in
          absurd (omega arith)

-- the same tables, under any of the five methods and any allowances, in other memory that is long enough
abbrev pub elsewhere : {method other : ℕ} {t : Tables} {plan work plan' work' : List ℕ} {checks trials checks' trials' : ℕ} {chosen : Method} →
    Accepted method t plan work checks trials → method_numbered other ≡ Some chosen → boats t ≤ length plan' → 8192 ≤ length work' → Accepted other t plan' work' checks' trials'
elsewhere {chosen = chosen} a k p w = record { chosen = chosen; known = k; fine = a.fine; plan_room = p; work_room = w }

-- the same run, by the method that is known to have its number
abbrev pub under : {method : ℕ} {t : Tables} {plan work : List ℕ} {checks trials : ℕ} {chosen : Method} →
    Accepted method t plan work checks trials → method_numbered method ≡ Some chosen → Accepted method t plan work checks trials
under a k = elsewhere a k a.plan_room a.work_room

-- ---- what an answer tells of the decision
-- the decision that is told by this number and writes these bytes
abbrev decision_by : (number : ℕ) → (bytes : List ℕ) → Decision
decision_by number bytes = get_or (decided (solved bytes) ∷ decided no_plan ∷ undecided Checks ∷ undecided Trials ∷ []) number (decided astray)

told_decision : (d : Decision) {k : ℕ} → (decision_told d).number ≡ k → d ≡ decision_by k (written d)
told_decision d e = by d ∙ ap (λ (k : ℕ). decision_by k (written d)) e
  where
    by : (d : Decision) → d ≡ decision_by (decision_told d).number (written d)
    by (decided (solved p)) = refl
    by (decided no_plan) = refl
    by (decided astray) = refl
    by (undecided Checks) = refl
    by (undecided Trials) = refl

pub record Decides (d : Decision) : Type 0 where
  pub ending : Ending
  pub is : d ≡ decided ending

decides : (d : Decision) → (decision_told d).number < 2 → Decides d
decides (decided r) l = record { ending = r; is = refl }
decides (undecided Checks) l = absurd (omega arith)
decides (undecided Trials) l = absurd (omega arith)

pub decided_small : (r : Ending) → (r ≡ astray → ⊥) → (decision_told (decided r)).number < 2
decided_small (solved p) n = omega arith
decided_small no_plan n = omega arith
decided_small astray n = absurd (n refl)

one_of_four : (d : Decision) → (d ≡ decided astray → ⊥) → OneOfFour (decision_told d)
one_of_four (decided (solved p)) n = inl refl
one_of_four (decided no_plan) n = inr (inl refl)
one_of_four (decided astray) n = absurd (n refl)
one_of_four (undecided Checks) n = inr (inr (inl refl))
one_of_four (undecided Trials) n = inr (inr (inr refl))

pub four_small : (answer : Told) → OneOfFour answer → answer.number ≤ 3
four_small answer (inl e) = omega (arith, ap (λ (x : Told). x.number) e)
four_small answer (inr (inl e)) = omega (arith, ap (λ (x : Told). x.number) e)
four_small answer (inr (inr (inl e))) = omega (arith, ap (λ (x : Told). x.number) e)
four_small answer (inr (inr (inr e))) = omega (arith, ap (λ (x : Told). x.number) e)

unwritten : (d : Decision) → 0 < (decision_told d).number → written d ≡ []
unwritten (decided (solved p)) l = absurd (omega arith)
unwritten (decided no_plan) l = refl
unwritten (decided astray) l = refl
unwritten (undecided which) l = refl

-- bytes put over the first ones of a list leave the later ones
put_over : (n : ℕ) (p q : List ℕ) → length p ≤ n → drop n (p ++ drop (length p) q) ≡ drop n q
put_over n p q l =
    let e : n ≡ length p + (n - length p) = omega arith in
    ap (λ (m : ℕ). drop m (p ++ drop (length p) q)) e
    ∙ drop-append-add p (drop (length p) q) (n - length p)
    ∙ drop-drop (n - length p) (length p) q
    ∙ ap (λ (m : ℕ). drop m q) (sym e)

-- ---- what an accepted run leaves
module _ {method : ℕ} {t : Tables} {plan work : List ℕ} {checks trials : ℕ} (a : Accepted method t plan work checks trials) where
  abbrev reply : Result
  reply = run_result method t plan work checks trials

  abbrev pub out : Outcome
  out = cut checks trials (search_by a.chosen t)

  abbrev bytes : List ℕ
  bytes = written out.decision

  pub searches : reply ≡ finished_result out plan work
  searches =
      result_finished method t plan work checks trials a.chosen a.known
      (says_nothing method t (length plan) (length work) a.chosen a.known a.fine a.plan_room (le-ltb _ _ a.work_room))

  told_by : reply.answer ≡ decision_told out.decision
  told_by = ap (λ (r : Result). r.answer) searches

  -- what the answer's number tells of the outcome
  pub outcome_is : {k : ℕ} → reply.answer.number ≡ k → out ≡ outcome (decision_by k bytes) reply.checks reply.trials
  outcome_is e =
      rw searches
      (ap (λ (d : Decision). outcome d out.checks out.trials) (told_decision out.decision (ap (λ (x : Told). x.number) (sym told_by) ∙ e)))

  pub decided_is : reply.answer.number < 2 → Decides out.decision
  decided_is l = decides out.decision (rw told_by at l)

  pub means : {r : Ending} → out.decision ≡ decided r → Means t r
  means {r} = decides_rightly a.chosen t (fine_sane t a.fine) checks trials r

  pub answers : OneOfFour reply.answer
  answers = rw told_by (one_of_four out.decision means)

  -- the bytes
  pub plan_is : reply.plan ≡ bytes ++ drop (length bytes) plan
  plan_is = ap (λ (r : Result). r.plan) searches

  pub writes_first : reply.answer.number ≡ 0 → First t bytes
  writes_first e = means (ap (λ (o : Outcome). o.decision) (outcome_is e))

  writes_none : 0 < reply.answer.number → bytes ≡ []
  writes_none l = unwritten out.decision (rw told_by at l)

  writes_few : length bytes ≤ boats t
  writes_few = by reply.answer.number refl
    where
      by : (k : ℕ) → reply.answer.number ≡ k → length bytes ≤ boats t
      by zero e = omega (arith, (writes_first e).lawful.is_plan.complete)
      by (suc k) e = omega (arith, ap length (writes_none (omega arith)))

  pub plan_same : 0 < reply.answer.number → reply.plan ≡ plan
  plan_same l = plan_is ∙ rw (writes_none l)

  pub plan_long : length reply.plan ≡ length plan
  plan_long = ap length plan_is ∙ simp (length-append, length-drop) (omega (arith, writes_few, a.plan_room))

  pub plan_later : drop (boats t) reply.plan ≡ drop (boats t) plan
  plan_later = ap (drop (boats t)) plan_is ∙ put_over (boats t) bytes plan writes_few

-- Wrong programs of any shape, each with a harbour case on which the promise refuses what it leaves.
use mathlib.Core.Path.{◌≡◌, refl, sym, ap, ◌∙◌}
use mathlib.Core.List.{List, [], ◌∷◌}
use Prim.Native.Nat.{ℕ, ◌≤◌}
use native.Mathlib.Omega.{arith}
use lib.ListN.{length, get_or}
use Rattle.problem.specs.Lowest.{lowest_from, lowest, sum}
use Rattle.problem.specs.Tables.{Tables, boats, start}
use Rattle.problem.specs.Methods.{method_numbered}
use Rattle.problem.specs.declared.Method.{Method}
use Rattle.problem.specs.declared.Method.TheVariants.{Bt, Cbj, Bm, Fc, FcCbj}
use Rattle.std.specs.Prelude.{Some}
use Rattle.tables.specs.Tests.{first_of}
use Rattle.tables.specs.Examination.{first_way_bad, bad_word, pair_of_word, examination, Fine}
use Rattle.events.specs.Events.{no_plan}
use Rattle.events.specs.Allowances.{Outcome, outcome, decided, cut}
use Rattle.methods.specs.Methods.{search_by}
use Rattle.methods.specs.Cases.{ample, comes_of, D, E, plan_of_e}
use Rattle.words.specs.Layout.{word}
use Rattle.words.proofs.Zeroed.{zeroed_at}
use Rattle.runs.specs.Runs.{Result, finished_result, run_result}
use Rattle.runs.proofs.Accepting.{searches}

fine_d : Fine D
unfolding examination first_of lowest lowest_from start sum first_way_bad bad_word pair_of_word
fine_d = refl

fine_e : Fine E
unfolding examination first_of lowest lowest_from start sum first_way_bad bad_word pair_of_word
fine_e = refl

-- memory as a caller lends it: three plan bytes of 255, and words enough
module _ (work : List ℕ) (room : 8192 ≤ length work) where
  abbrev bytes : List ℕ
  bytes = 255 ∷ 255 ∷ 255 ∷ []

  abbrev promised : (method : ℕ) → Tables → Result
  promised method t = run_result method t bytes work ample ample

  is : (method : ℕ) (chosen : Method) (t : Tables) (o : Outcome) → method_numbered method ≡ Some chosen → Fine t → boats t ≤ 3 → cut ample ample (search_by chosen t) ≡ o → promised method t ≡ finished_result o bytes work
  is method chosen t o k f l e =
      searches (record { chosen = chosen; known = k; fine = f; plan_room = l; work_room = room }) ∙ ap (λ (x : Outcome). finished_result x bytes work) e

  on_d : promised 1 D ≡ finished_result (outcome (decided no_plan) 10 10) bytes work
  unfolding comes_of
  on_d = is 1 Bt D _ refl fine_d (omega arith) refl

  on_e : promised 1 E ≡ finished_result (outcome plan_of_e 3 8) bytes work
  unfolding comes_of
  on_e = is 1 Bt E _ refl fine_e (omega arith) refl

  -- one that is always undecided
  pub always_undecided : (r : Result) → 2 ≤ r.answer.number → r.answer.number ≤ 3 → r ≡ promised 1 D → ⊥
  always_undecided r lo hi e = omega (arith, ap (λ (x : Result). x.answer.number) (e ∙ on_d))

  -- one that always refuses
  pub always_refused : (r : Result) → 100 ≤ r.answer.number → r ≡ promised 1 E → ⊥
  always_refused r l e = omega (arith, ap (λ (x : Result). x.answer.number) (e ∙ on_e))

  -- one that always says 'no plan'
  pub always_no_plan : (r : Result) → r.answer.number ≡ 1 → r ≡ promised 1 E → ⊥
  always_no_plan r n e = omega (arith, ap (λ (x : Result). x.answer.number) (e ∙ on_e))

  -- one that does nothing to the plan
  pub does_nothing : (r : Result) → r.plan ≡ bytes → r ≡ promised 1 E → ⊥
  does_nothing r n e = omega (arith, ap (λ (p : List ℕ). get_or p 0 0) (sym n ∙ ap (λ (x : Result). x.plan) (e ∙ on_e)))

  -- one that searches truly at boat 0 and copies its slot for the rest
  pub copies_a_slot : (r : Result) → get_or r.plan 0 0 ≡ get_or r.plan 1 0 → r ≡ promised 1 E → ⊥
  copies_a_slot r n e = omega (arith, n, ap (λ (x : Result). get_or x.plan 0 0) (e ∙ on_e), ap (λ (x : Result). get_or x.plan 1 0) (e ∙ on_e))

  -- one that runs plain BT under every number: BT makes 3 checks here, and each of the other four makes 2. (BM's trials are as many as BT's)
  plain_under : (method : ℕ) (chosen : Method) (made : ℕ) → method_numbered method ≡ Some chosen → cut ample ample (search_by chosen E) ≡ outcome plan_of_e 2 made → promised 1 E ≡ promised method E → ⊥
  plain_under method chosen made k c e = omega (arith, ap (λ (x : Result). x.checks) (sym on_e ∙ e ∙ is method chosen E _ k fine_e (omega arith) c))

  pub plain_under_2 : promised 1 E ≡ promised 2 E → ⊥
  unfolding comes_of
  plain_under_2 = plain_under 2 Cbj 6 refl refl

  pub plain_under_3 : promised 1 E ≡ promised 3 E → ⊥
  unfolding comes_of
  plain_under_3 = plain_under 3 Bm 8 refl refl

  pub plain_under_4 : promised 1 E ≡ promised 4 E → ⊥
  unfolding comes_of
  plain_under_4 = plain_under 4 Fc 4 refl refl

  pub plain_under_5 : promised 1 E ≡ promised 5 E → ⊥
  unfolding comes_of
  plain_under_5 = plain_under 5 FcCbj 4 refl refl

  -- one that invents its count of checks, whatever the tables: no number is right on D and on E
  pub invents_checks : (made : ℕ) (r s : Result) → r.checks ≡ made → s.checks ≡ made → r ≡ promised 1 D → s ≡ promised 1 E → ⊥
  invents_checks made r s a b e f = omega (arith, a, b, ap (λ (x : Result). x.checks) (e ∙ on_d), ap (λ (x : Result). x.checks) (f ∙ on_e))

  -- one that invents its count of trials
  pub invents_trials : (made : ℕ) (r s : Result) → r.trials ≡ made → s.trials ≡ made → r ≡ promised 1 D → s ≡ promised 1 E → ⊥
  invents_trials made r s a b e f = omega (arith, a, b, ap (λ (x : Result). x.trials) (e ∙ on_d), ap (λ (x : Result). x.trials) (f ∙ on_e))

  -- one that writes the plan where there is none
  pub writes_no_plan : (r : Result) → (get_or r.plan 0 0 ≡ 255 → ⊥) → r ≡ promised 1 D → ⊥
  writes_no_plan r n e = n (ap (λ (x : Result). get_or x.plan 0 0) (e ∙ on_d))

  -- one that leaves the words as they were, of which the first is 7
  pub clears_no_word : word work 0 ≡ 7 → (r : Result) → r.work ≡ work → r ≡ promised 1 D → ⊥
  clears_no_word seven r n e =
      omega (arith, seven, ap (λ (w : List ℕ). word w 0) (sym n ∙ ap (λ (x : Result). x.work) (e ∙ on_d)), zeroed_at 8192 0 work (omega arith))

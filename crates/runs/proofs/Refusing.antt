-- The refusals of a run, as the code comes to them: 1, then the examination's, then 8 and 9 of the lent memory.
use mathlib.Core.Path.{◌≡◌, refl, sym, ap, ◌∙◌, subst}
use mathlib.Core.Bool.{Bool, true, false}
use mathlib.Core.List.{List, [], ◌∷◌, ◌++◌}
use Prim.Native.Nat.{ℕ, zero, suc, ◌≤◌, ◌<◌}
use native.Mathlib.Omega.{arith}
use borrow.Author.Tests.{lt-ltb, le-ltb, ne_eqb}
use lib.Dec.{ltb, eqb}
use lib.ListN.{length}
use Rattle.problem.specs.Tables.{Tables, boats}
use Rattle.problem.specs.Methods.{method_numbered}
use Rattle.problem.specs.Replies.{Told, told, refused}
use Rattle.problem.specs.declared.Method.{Method}
use Rattle.std.specs.Prelude.{Option, Some, None}
use Rattle.tables.specs.Tests.{Test, once, first_of}
use Rattle.tables.specs.Examination.{tests, examination, Fine}
use Rattle.tables.specs.Applies.{Gives}
use Rattle.tables.proofs.Examining.{once_applies, once_passes}
use Rattle.tables.proofs.Laws.{gives_first, large_gives, after_none, gives_before, fine_none}
use Rattle.events.specs.Allowances.{cut}
use Rattle.methods.specs.Methods.{search_by}
use Rattle.runs.specs.Runs.{not_one_to_five, lent_tests, refusal_of_run, Result, refused_result, finished_result, finished_by, unless_refused, run_result}
use Rattle.runs.specs.Lent.{lent_refusal, lent_result}

-- ---- number 1: a method number is refused where it is no method's, and only there
abbrev nobodys : Option Method → Bool
nobodys (Some chosen) = false
nobodys None = true

refused_nobodys : (n : ℕ) → not_one_to_five n ≡ nobodys (method_numbered n)
refused_nobodys zero = refl
refused_nobodys (suc zero) = refl
refused_nobodys (suc (suc zero)) = refl
refused_nobodys (suc (suc (suc zero))) = refl
refused_nobodys (suc (suc (suc (suc zero)))) = refl
refused_nobodys (suc (suc (suc (suc (suc zero))))) = refl
refused_nobodys (suc (suc (suc (suc (suc (suc n)))))) =
    let m = suc (suc (suc (suc (suc (suc n))))) in
    rw (ne_eqb m 0 (λ z. omega arith), lt-ltb 5 m (omega arith))

known_passes : (n : ℕ) (chosen : Method) → method_numbered n ≡ Some chosen → not_one_to_five n ≡ false
known_passes n chosen e = refused_nobodys n ∙ ap nobodys e

pub unknown_refused : (n : ℕ) → method_numbered n ≡ None → not_one_to_five n ≡ true
unknown_refused n e = refused_nobodys n ∙ ap nobodys e

-- ---- the lent memory: 8, then 9
module _ (t : Tables) (plan_bytes work_words : ℕ) where
  pub lent_8 : plan_bytes < boats t → lent_refusal t plan_bytes work_words ≡ refused 8 0
  unfolding lent_refusal
  lent_8 l = once_applies 8 _ (once 9 (ltb work_words 8192) ∷ []) (told 0 []) (lt-ltb _ _ l)

  module _ (plan_fits : boats t ≤ plan_bytes) where
    past_8 : lent_refusal t plan_bytes work_words ≡ first_of (once 9 (ltb work_words 8192) ∷ []) (told 0 [])
    unfolding lent_refusal
    past_8 = once_passes 8 _ (once 9 (ltb work_words 8192) ∷ []) (told 0 []) (le-ltb _ _ plan_fits)

    pub lent_9 : ltb work_words 8192 ≡ true → lent_refusal t plan_bytes work_words ≡ refused 9 0
    lent_9 e = past_8 ∙ once_applies 9 _ [] (told 0 []) e

    pub lent_enough : ltb work_words 8192 ≡ false → lent_refusal t plan_bytes work_words ≡ told 0 []
    unfolding first_of
    lent_enough e = past_8 ∙ once_passes 9 _ [] (told 0 []) e

module _ (chosen : Method) (t : Tables) (plan work : List ℕ) (checks trials : ℕ) where
  abbrev left : Told → Bool → Result
  left w fine = unless_refused fine (finished_result (cut checks trials (search_by chosen t)) plan work) (refused_result w plan work)

  pub lent_refused : {w : Told} → lent_refusal t (length plan) (length work) ≡ w → 100 ≤ w.number → lent_result chosen t plan work checks trials ≡ refused_result w plan work
  unfolding lent_result
  lent_refused {w} e l = ap (λ (x : Told). left x (eqb x.number 0)) e ∙ ap (left w) (ne_eqb w.number 0 (λ z. omega arith))

  pub lent_finished : lent_refusal t (length plan) (length work) ≡ told 0 [] →
      lent_result chosen t plan work checks trials ≡ finished_result (cut checks trials (search_by chosen t)) plan work
  unfolding lent_result
  lent_finished e = ap (λ (x : Told). left x (eqb x.number 0)) e

-- ---- before it: 1, then the examination's
module _ (method : ℕ) (t : Tables) (plan_bytes work_words : ℕ) where
  abbrev memory : List Test
  memory = lent_tests t plan_bytes work_words

  pub says_1 : method_numbered method ≡ None → refusal_of_run method t plan_bytes work_words ≡ refused 1 0
  unfolding refusal_of_run
  says_1 e = once_applies 1 (not_one_to_five method) (tests t ++ memory) (told 0 []) (unknown_refused method e)

  module _ (chosen : Method) (known : method_numbered method ≡ Some chosen) where
    past_1 : refusal_of_run method t plan_bytes work_words ≡ first_of (tests t ++ memory) (told 0 [])
    unfolding refusal_of_run
    past_1 = once_passes 1 (not_one_to_five method) (tests t ++ memory) (told 0 []) (known_passes method chosen known)

    pub says_examined : {w : Told} → w ≡ examination t → 100 ≤ w.number → refusal_of_run method t plan_bytes work_words ≡ w
    unfolding examination
    says_examined {w} e l =
        past_1
        ∙ gives_first (tests t ++ memory) (told 0 []) w
        (gives_before (tests t) memory w (subst (Gives (tests t)) (sym e) (large_gives (tests t) _ (omega arith) (omega (arith, ap (λ x. x.number) e)))))

    says_lent : Fine t → refusal_of_run method t plan_bytes work_words ≡ lent_refusal t plan_bytes work_words
    unfolding lent_refusal
    says_lent fine = past_1 ∙ after_none (tests t) memory (told 0 []) (fine_none t fine)

    pub says_nothing : Fine t → boats t ≤ plan_bytes → ltb work_words 8192 ≡ false → refusal_of_run method t plan_bytes work_words ≡ told 0 []
    says_nothing fine l e = says_lent fine ∙ lent_enough t plan_bytes work_words l e

-- ---- the whole result
module _ (method : ℕ) (t : Tables) (plan work : List ℕ) (checks trials : ℕ) where
  pub result_refused : {w : Told} → refusal_of_run method t (length plan) (length work) ≡ w → 100 ≤ w.number →
      run_result method t plan work checks trials ≡ refused_result w plan work
  unfolding run_result
  result_refused {w} e l =
      ap (λ (x : Told). unless_refused (eqb x.number 0) (finished_by (method_numbered method) t plan work checks trials) (refused_result x plan work)) e
      ∙ ap (λ (b : Bool). unless_refused b (finished_by (method_numbered method) t plan work checks trials) (refused_result w plan work)) (ne_eqb w.number 0 (λ z. omega arith))

  pub result_finished : (chosen : Method) → method_numbered method ≡ Some chosen → refusal_of_run method t (length plan) (length work) ≡ told 0 [] →
      run_result method t plan work checks trials ≡ finished_result (cut checks trials (search_by chosen t)) plan work
  unfolding run_result
  result_finished chosen k e =
      ap (λ (x : Told). unless_refused (eqb x.number 0) (finished_by (method_numbered method) t plan work checks trials) (refused_result x plan work)) e
      ∙ ap (λ (x : Option Method). finished_by x t plan work checks trials) k

  -- on fine tables the lent memory decides
  pub result_lent : (chosen : Method) → method_numbered method ≡ Some chosen → Fine t → lent_result chosen t plan work checks trials ≡ run_result method t plan work checks trials
  unfolding run_result lent_result
  result_lent chosen k fine =
      let w = lent_refusal t (length plan) (length work) in
      ap (λ (x : Option Method). unless_refused (eqb w.number 0) (finished_by x t plan work checks trials) (refused_result w plan work)) (sym k)
      ∙ ap (λ (x : Told). unless_refused (eqb x.number 0) (finished_by (method_numbered method) t plan work checks trials) (refused_result x plan work))
      (sym (says_lent method t (length plan) (length work) chosen k fine))

-- all that a run leaves but its words goes by whether the words lent are enough, and by nothing else of them
abbrev pub but_words : Result → Result
but_words r = record { answer = r.answer; checks = r.checks; trials = r.trials; plan = r.plan; work = [] }

module _ (method : ℕ) (t : Tables) (plan work work' : List ℕ) (checks trials : ℕ) where
  abbrev leaving : Bool → Option Method → Told → List ℕ → Result
  leaving fine found w words = but_words (unless_refused fine (finished_by found t plan words checks trials) (refused_result w plan words))

  by_length : (fine : Bool) (found : Option Method) (w : Told) → leaving fine found w work' ≡ leaving fine found w work
  by_length true (Some chosen) w = refl
  by_length true None w = refl
  by_length false found w = refl

  abbrev refusal : Bool → Told
  refusal few = first_of (once 1 (not_one_to_five method) ∷ (tests t ++ (once 8 (ltb (length plan) (boats t)) ∷ once 9 few ∷ []))) (told 0 [])

  pub same_but_words : ltb (length work') 8192 ≡ ltb (length work) 8192 →
      but_words (run_result method t plan work' checks trials) ≡ but_words (run_result method t plan work checks trials)
  unfolding run_result refusal_of_run
  same_but_words e =
      let w = refusal (ltb (length work) 8192) in
      ap (λ (few : Bool). leaving (eqb (refusal few).number 0) (method_numbered method) (refusal few) work') e ∙ by_length (eqb w.number 0) (method_numbered method) w

-- The numbers 21 to 26 are the file's alone: neither the examination nor the question about a plan gives one.
use mathlib.Core.Path.{◌≡◌, refl, ap}
use mathlib.Core.Logic.{⊎_elim}
use mathlib.Core.Bool.{Bool, true, false, ◌||◌}
use mathlib.Core.List.{List, ◌++◌}
use Prim.Native.Nat.{ℕ, ◌+◌, ◌≤◌, ◌<◌}
use native.Mathlib.Omega.{arith}
use borrow.Author.Tests.{eqb-true}
use lib.Dec.{eqb}
use lib.ListN.{length}
use Rattle.problem.specs.Tables.{Tables, boats}
use Rattle.problem.specs.Replies.{Told}
use Rattle.problem.proofs.Lowest.{not_both}
use Rattle.tables.specs.Tests.{Test}
use Rattle.tables.specs.Applies.{Gives, here, later}
use Rattle.tables.specs.Examination.{first_way_bad, tests, fine_told, examination}
use Rattle.tables.specs.Former.{of_pairs}
use Rattle.tables.proofs.Former.{way_number}
use Rattle.tables.proofs.Laws.{none_fine, gives_first, first_gives, large_gives, gives_before}
use Rattle.questions.specs.Questions.{given_tests, some_broken, yes_or_no, lawful_question}
use Rattle.questions.proofs.Laws.{plan_tests}
use Rattle.files.specs.Promises.{OfFile}

pairs_other : (number : ℕ) → of_pairs number ≡ true → 151 ≤ number
pairs_other number e = by (eqb number 151) refl (eqb number 152) refl (eqb number 153) refl (eqb number 154) refl e
  where
    by : (a : Bool) → eqb number 151 ≡ a → (b : Bool) → eqb number 152 ≡ b → (c : Bool) → eqb number 153 ≡ c → (d : Bool) → eqb number 154 ≡ d
        → (a || b || c || d) ≡ true → 151 ≤ number
    by true p b q c r d s h = omega (arith, eqb-true number 151 p)
    by false p true q c r d s h = omega (arith, eqb-true number 152 q)
    by false p false q true r d s h = omega (arith, eqb-true number 153 r)
    by false p false q false r true s h = omega (arith, eqb-true number 154 s)
    by false p false q false r false s h = absurd (not_both h refl)

-- no test gives nothing
pub some_test : {ts : List Test} {w : Told} → Gives ts w → 0 < length ts
some_test (here k l p f) = omega arith
some_test (later f g) = omega arith

module _ (t : Tables) where
  -- what gives a number of the file comes after the examination
  pub after_examination : {post : List Test} {w : Told} → Gives (tests t ++ post) w → OfFile w.number → Gives post w
  after_examination (here k l p f) o = absurd (omega (arith, o.0))
  after_examination (later a (here k l p f)) o = absurd (omega (arith, o.0))
  after_examination (later a (later b (here k l p f))) o = absurd (omega (arith, o.0))
  after_examination (later a (later b (later c (here k l p f)))) o =
      absurd (omega (arith, o.1, pairs_other (100 + (first_way_bad (boats t) t.pairs k).number) (way_number (boats t) t.pairs k p)))
  after_examination (later a (later b (later c (later d (here k l p f))))) o = absurd (omega (arith, o.0))
  after_examination (later a (later b (later c (later d (later e (here k l p f)))))) o = absurd (omega (arith, o.0))
  after_examination (later a (later b (later c (later d (later e (later f g)))))) o = g

  pub examination_other : OfFile (examination t).number → ⊥
  unfolding examination
  examination_other o =
      ⊎_elim (λ n. omega (arith, o.0, ap (λ w. w.number) (none_fine (tests t) (fine_told t) n)))
      (λ g. omega (arith, some_test (after_examination g o)))
      (first_gives (tests t) (fine_told t))

  pub lawful_other : (given : List ℕ) → OfFile (lawful_question t given).number → ⊥
  unfolding lawful_question
  lawful_other given o =
      ⊎_elim
      (λ n. answered (some_broken t given) (omega (arith, o.0, ap (λ w. w.number) (none_fine (given_tests t given) (yes_or_no (some_broken t given)) n))))
      (λ g. of_plan (after_examination g o) o)
      (first_gives (given_tests t given) (yes_or_no (some_broken t given)))
    where
      answered : (b : Bool) → 121 ≤ (yes_or_no b).number → ⊥
      answered true l = omega arith
      answered false l = omega arith

      of_plan : {w : Told} → Gives (plan_tests t given) w → OfFile w.number → ⊥
      of_plan (here k l p f) o = omega (arith, o.0)
      of_plan (later a (here k l p f)) o = omega (arith, o.0)
      of_plan {w = w} (later a (later _ x13)) o = elim x13 [ ]

  -- where the examination refuses, the question about a plan says the same
  pub refused_first : (given : List ℕ) → 100 ≤ (examination t).number → lawful_question t given ≡ examination t
  unfolding examination lawful_question
  refused_first given l =
      gives_first (given_tests t given) (yes_or_no (some_broken t given)) (examination t)
      (gives_before (tests t) (plan_tests t given) (examination t) (large_gives (tests t) (fine_told t) (omega arith) l))

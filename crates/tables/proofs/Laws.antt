-- What the ordered tests mean, and when the examination says fine.
use mathlib.Core.Path.{◌≡◌, refl, ap, ◌∙◌}
use mathlib.Core.Logic.{◌⊎◌, inl, inr, ⊎_elim}
use mathlib.Core.Bool.{Bool, true, false}
use mathlib.Core.List.{List, [], ◌∷◌, ◌++◌}
use Prim.Native.Nat.{◌≤◌, ◌<◌}
use native.Mathlib.Omega.{arith}
use borrow.Author.Tests.{ltb-true, ltb-false}
use lib.Dec.{ltb}
use Rattle.problem.specs.Tables.{Tables}
use Rattle.problem.specs.Replies.{Told}
use Rattle.problem.proofs.Lowest.{lowest_here, lowest_fails, lowest_passes, none_lowest}
use Rattle.tables.specs.Tests.{says, Test, found, first_of}
use Rattle.tables.specs.Applies.{NoneApplies, none, nor, Gives, here, later}
use Rattle.tables.specs.Examination.{tests, fine_told, examination, Fine}
use Rattle.tables.proofs.Examining.{applies, passes, fails_passes}

-- ---- a list of tests
pub none_fine : (ts : List Test) (o : Told) → NoneApplies ts → first_of ts o ≡ o
unfolding first_of
none_fine ts o none = refl
none_fine ts o (nor {test} {tests} f n) = fails_passes test tests o f ∙ none_fine tests o n

pub gives_first : (ts : List Test) (o w : Told) → Gives ts w → first_of ts o ≡ w
gives_first ts o w (here {test} {tests} k l p f) =
    let q = lowest_here test.count (λ j. (test.at j).cause) k l f p in
    applies test tests o (omega arith) ∙ ap (λ j. says (test.at j)) q
gives_first ts o w (later {test} {tests} f g) = fails_passes test tests o f ∙ gives_first tests o w g

pub first_gives : (ts : List Test) (o : Told) → NoneApplies ts ⊎ Gives ts (first_of ts o)
first_gives [] o = inl none
first_gives (test ∷ ts) o = by (ltb (found test) test.count) refl (first_gives ts o)
  where
    by : (b : Bool) → ltb (found test) test.count ≡ b → NoneApplies ts ⊎ Gives ts (first_of ts o)
        → NoneApplies (test ∷ ts) ⊎ Gives (test ∷ ts) (first_of (test ∷ ts) o)
    by true e rest =
        let l = ltb-true _ _ e in
        inr (rw (applies test ts o l) (here _ l (lowest_passes test.count (λ k. (test.at k).cause) l) (lowest_fails test.count (λ k. (test.at k).cause))))
    by false e rest =
        let l = ltb-false _ _ e in
        let f = none_lowest test.count (λ k. (test.at k).cause) l in
        ⊎_elim (λ n. inl (nor f n)) (λ g. inr (rw (passes test ts o l) (later f g))) rest

-- refusals count from 100, so that a lower number says that no test applies
pub gives_refused : (ts : List Test) (w : Told) → Gives ts w → 100 ≤ w.number
gives_refused ts w (here {test} {tests} k l p f) = omega arith
gives_refused ts w (later {test} {tests} f g) = gives_refused tests w g

pub small_none : (ts : List Test) (o : Told) → (first_of ts o).number < 100 → NoneApplies ts
small_none ts o l = ⊎_elim (λ n. n) (λ g. absurd (omega (arith, gives_refused ts (first_of ts o) g))) (first_gives ts o)

pub large_gives : (ts : List Test) (o : Told) → o.number < 100 → 100 ≤ (first_of ts o).number → Gives ts (first_of ts o)
large_gives ts o s l =
    ⊎_elim (λ n. absurd (omega (arith, ap (λ w. w.number) (none_fine ts o n)))) (λ g. g) (first_gives ts o)

-- ---- tests after others
pub after_none : (pre post : List Test) (o : Told) → NoneApplies pre → first_of (pre ++ post) o ≡ first_of post o
after_none pre post o none = refl
after_none pre post o (nor {test} {tests} f n) = fails_passes test (tests ++ post) o f ∙ after_none tests post o n

pub gives_before : (pre post : List Test) (w : Told) → Gives pre w → Gives (pre ++ post) w
gives_before pre post w (here {test} {tests} k l p f) = here k l p f
gives_before pre post w (later {test} {tests} f g) = later f (gives_before tests post w g)

-- ---- the examination
pub fine_none : (t : Tables) → Fine t → NoneApplies (tests t)
unfolding examination
fine_none t e = small_none (tests t) (fine_told t) (omega arith)

pub none_is_fine : (t : Tables) → NoneApplies (tests t) → Fine t
unfolding examination
none_is_fine t n = ap (λ w. w.number) (none_fine (tests t) (fine_told t) n)

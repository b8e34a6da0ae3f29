-- Two replies that say the same on paper are the same: each can be read back.
use mathlib.Core.Path.{◌≡◌, refl, sym, ap, ◌∙◌}
use mathlib.Core.List.{List, [], ◌∷◌}
use Prim.Native.Nat.{ℕ, ◌-◌, ◌≤◌}
use native.Mathlib.Omega.{arith}
use lib.ListN.{length, get_or, get_or-eq_default}
use Rattle.problem.specs.declared.Refusal.{Refusal}
use Rattle.problem.specs.declared.Refusal.TheVariants.{Method, Boats, Size, PairBytes, PairNoBoat, PairSameBoat, PairHigherFirst, PairNotRising, RowWords, RowBit, PlanMemory, WorkMemory, GivenLength, GivenSlot, Mark, FileEnd, FileBoat, FileCount, FileRest, Room}
use Rattle.problem.specs.declared.Allowance.TheVariants.{Checks, Trials}
use Rattle.problem.specs.declared.Answer.{Answer}
use Rattle.problem.specs.declared.Answer.TheVariants.{Solved, NoPlan, Undecided, Refused}
use Rattle.problem.specs.Replies.{Told, refusal_told, answer_told}

pub read_back : {A : Type 0} (tell : A → Told) (back : Told → A) → ((x : A) → back (tell x) ≡ x) → (x y : A) → tell x ≡ tell y → x ≡ y
read_back tell back is x y e = sym (is x) ∙ ap back e ∙ is y

-- ---- a refusal
refusal_of : ℕ → ℕ → Refusal
refusal_of number place = get_or to11 number (get_or from21 (number - 21) (get_or from51 (number - 51) Method))
  where
    -- no refusal has 0 or 5
    to11 : List Refusal
    to11 =
        Method
        ∷ Method
        ∷ Boats
        ∷ Size place
        ∷ PairBytes
        ∷ Method
        ∷ RowWords
        ∷ RowBit place
        ∷ PlanMemory
        ∷ WorkMemory
        ∷ GivenLength
        ∷ GivenSlot place
        ∷ []

    from21 : List Refusal
    from21 = Mark place ∷ FileEnd place ∷ FileBoat place ∷ FileCount place ∷ FileRest place ∷ Room ∷ []

    from51 : List Refusal
    from51 = PairNoBoat place ∷ PairSameBoat place ∷ PairHigherFirst place ∷ PairNotRising place ∷ []

pub told_refusal : Told → Refusal
told_refusal w = refusal_of (w.number - 100) (get_or w.values 0 0)

refusal_back : (why : Refusal) → told_refusal (refusal_told why) ≡ why
unfolding told_refusal refusal_of
refusal_back Method = refl
refusal_back Boats = refl
refusal_back (Size boat) = refl
refusal_back PairBytes = refl
refusal_back (PairNoBoat byte) = refl
refusal_back (PairSameBoat byte) = refl
refusal_back (PairHigherFirst byte) = refl
refusal_back (PairNotRising byte) = refl
refusal_back RowWords = refl
refusal_back (RowBit word) = refl
refusal_back PlanMemory = refl
refusal_back WorkMemory = refl
refusal_back GivenLength = refl
refusal_back (GivenSlot boat) = refl
refusal_back (Mark byte) = refl
refusal_back (FileEnd byte) = refl
refusal_back (FileBoat byte) = refl
refusal_back (FileCount byte) = refl
refusal_back (FileRest byte) = refl
refusal_back Room = refl

pub refusal_one : (x y : Refusal) → refusal_told x ≡ refusal_told y → x ≡ y
refusal_one = read_back refusal_told told_refusal refusal_back

-- ---- an enum that refuses, where its other answers have the numbers from 0 on
abbrev pub told_or : {A : Type 0} → List A → (Refusal → A) → Told → A
told_or others refuse w = get_or others w.number (refuse (told_refusal w))

pub refused_back : {A : Type 0} (others : List A) (refuse : Refusal → A) → length others ≤ 100 → (why : Refusal) → told_or others refuse (refusal_told why) ≡ refuse why
refused_back others refuse l why = get_or-eq_default others _ (omega arith) ∙ ap refuse (refusal_back why)

-- ---- an answer
abbrev answers : List Answer
answers = Solved ∷ NoPlan ∷ Undecided Checks ∷ Undecided Trials ∷ []

answer_back : (x : Answer) → told_or answers Refused (answer_told x) ≡ x
answer_back Solved = refl
answer_back NoPlan = refl
answer_back (Undecided Checks) = refl
answer_back (Undecided Trials) = refl
answer_back (Refused why) = refused_back answers Refused (omega arith) why

pub answer_one : (x y : Answer) → answer_told x ≡ answer_told y → x ≡ y
answer_one = read_back answer_told (told_or answers Refused) answer_back

-- Wrong programs of any shape, each with tables on which the promise refuses its reply.
use mathlib.Core.Path.{◌≡◌, refl, ap}
use mathlib.Core.List.{List, [], ◌∷◌}
use Prim.Native.Nat.{ℕ, ◌+◌, ◌*◌, ◌≤◌}
use native.Mathlib.Omega.{arith}
use borrow.Author.Tests.{eqb-false}
use lib.ListN.{get_or}
use Rattle.problem.specs.Lowest.{lowest_from, lowest, sum}
use Rattle.problem.specs.Tables.{Tables, boats, listed, lower, higher, start}
use Rattle.problem.specs.Replies.{Told, told, refused}
use Rattle.tables.specs.Tests.{fault, Test, each_way, first_of}
use Rattle.tables.specs.Examination.{names_no_boat, same_boat, higher_first, not_rising, first_way_bad, examination}

abbrev number : Told → ℕ
number r = r.number

abbrev pub place : Told → ℕ
place r = get_or r.values 0 0

-- no boat at all
abbrev nothing : Tables
nothing = record { sizes = []; pairs = []; rows = [] }

-- boats 0 and 2 have no slot
abbrev two_at_fault : Tables
two_at_fault = record { sizes = 0 ∷ 1 ∷ 0 ∷ []; pairs = []; rows = [] }

-- one that always refuses
pub always_refused : (w : Told) → 100 ≤ w.number → w ≡ examination nothing → ⊥
unfolding examination first_of lowest lowest_from start sum
always_refused w l e = omega (arith, l, ap number e)

-- one that refuses nothing
pub never_refused : told 0 (3 ∷ 0 ∷ 0 ∷ []) ≡ examination two_at_fault → ⊥
unfolding examination first_of lowest lowest_from start sum
never_refused e = eqb-false 0 103 refl (ap number e)

-- one that gives the last fault instead of the lowest
pub last_refused : refused 3 2 ≡ examination two_at_fault → ⊥
unfolding examination first_of lowest lowest_from start sum
last_refused e = eqb-false 2 0 refl (ap place e)

-- ---- bad pairs of three boats, and no row
abbrev with_pairs : List ℕ → Tables
with_pairs pairs = record { sizes = 1 ∷ 1 ∷ 1 ∷ []; pairs = pairs; rows = [] }

-- one that looks for one way in all pairs before it looks for the next: the first way of the second pair, 51, comes before the third of the first, 53
abbrev way_after_way : Tables → List Test
way_after_way t =
    each_way (listed t.pairs) (λ k. fault 51 (2 * k) (names_no_boat (boats t) (lower t.pairs k)))
    ∷ each_way (listed t.pairs) (λ k. fault 51 (2 * k + 1) (names_no_boat (boats t) (higher t.pairs k)))
    ∷ each_way (listed t.pairs) (λ k. fault 52 (2 * k + 1) (same_boat t.pairs k))
    ∷ each_way (listed t.pairs) (λ k. fault 53 (2 * k) (higher_first t.pairs k))
    ∷ each_way (listed t.pairs) (λ k. fault 54 (2 * k) (not_rising t.pairs k))
    ∷ []

pub way_after_way_lem : (o : Told) → (let t = with_pairs (1 ∷ 0 ∷ 0 ∷ 9 ∷ []) in first_of (way_after_way t) o ≡ examination t) → ⊥
unfolding examination first_of lowest lowest_from start sum first_way_bad
way_after_way_lem o e = eqb-false 151 153 refl (ap number e)

-- one that tells a pair of no boat twice as the same boat
pub same_boat_before_no_boat : refused 52 1 ≡ examination (with_pairs (9 ∷ 9 ∷ [])) → ⊥
unfolding examination first_of lowest lowest_from start sum first_way_bad
same_boat_before_no_boat e = eqb-false 152 151 refl (ap number e)

-- one that looks at the pair before first: 1-0 after 1-2 is turned
pub not_rising_before_higher_first : refused 54 2 ≡ examination (with_pairs (1 ∷ 2 ∷ 1 ∷ 0 ∷ [])) → ⊥
unfolding examination first_of lowest lowest_from start sum first_way_bad
not_rising_before_higher_first e = eqb-false 154 153 refl (ap number e)

-- one that goes by the size of the numbers: 6 applies too
pub smaller_number_first : refused 6 0 ≡ examination (with_pairs (1 ∷ 0 ∷ [])) → ⊥
unfolding examination first_of lowest lowest_from start sum first_way_bad
smaller_number_first e = eqb-false 106 153 refl (ap number e)

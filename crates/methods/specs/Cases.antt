-- The thirteen harbour cases that are proved, as one table; and a second table, of cases that tell apart definitions which the harbour cases do not.
-- (Document 01, 'Harbour cases' and 'What the promises hold down'. What the definitions say of them is computed in proofs/Cases.antt.)
use Rattle.std.specs.Prelude.{List, [], ◌∷◌, ℕ, ◌-◌, ◌^◌}
use Rattle.problem.specs.Lowest.{lowest_from, lowest, sum}
use Rattle.problem.specs.Tables.{Tables, tables as tables_of, place, is_listed, start, allowed}
use Rattle.problem.specs.declared.Method.{Method}
use Rattle.problem.specs.declared.Method.TheVariants.{Bt, Cbj, Bm, Fc, FcCbj}
use Rattle.problem.specs.declared.Allowance.TheVariants.{Checks, Trials}
use Rattle.events.specs.Events.{solved, no_plan}
use Rattle.events.specs.Allowances.{Decision, decided, undecided, Outcome, outcome, cut_from, cut}
use Rattle.methods.specs.Choices.{choices, slot_of, may_stand, shown_event, shown_plan, shown_ending, shown}
use Rattle.methods.specs.Machine.{tried, back_to, leave, at_choice, at_boat, at_plan, step, onward, bounded_search, counts, span, steps_left, search_from, search}
use Rattle.methods.specs.Moves.{some?}
use Rattle.methods.specs.BT.{look_back, looking_back, bt}
use Rattle.methods.specs.CBJ.{deepest, cbj}
use Rattle.methods.specs.BM.{bm}
use Rattle.methods.specs.FC.{is_live, strikers, slot_checks, choice_stays, sweep, struck, end_of_sweep, put_back_from, looking_ahead, fc}
use Rattle.methods.specs.FCCBJ.{fccbj}
use Rattle.methods.specs.Methods.{search_by}

-- a method on tables with allowances, and what comes of it
pub record Case : Type 0 where
  pub method : Method
  pub tables : Tables
  pub checks : ℕ
  pub trials : ℕ
  pub expected : Outcome

abbrev pub ample : ℕ
ample = 2 ^ 64 - 1

abbrev pub case : Method → Tables → (checks trials : ℕ) → Decision → (made tried : ℕ) → Case
case m t ca ta d c n = record { method = m; tables = t; checks = ca; trials = ta; expected = outcome d c n }

-- what the definitions say. (To unfold this is to unfold all that its line names)
unfoldable pub comes_of : Case → Outcome
unfolding search_by shown shown_event shown_plan shown_ending slot_of choices may_stand cut cut_from search search_from bounded_search onward step at_plan at_boat at_choice tried leave back_to counts span steps_left bt looking_back look_back cbj deepest bm fc looking_ahead is_live strikers slot_checks choice_stays sweep struck end_of_sweep put_back_from some? fccbj lowest_from lowest sum place is_listed start allowed
comes_of k = cut k.checks k.trials (search_by k.method k.tables)

-- ---- the thirteen
abbrev pub A : Tables
A = tables_of [] [] []

abbrev pub D : Tables
D = tables_of (2 ∷ 2 ∷ 2 ∷ []) (0 ∷ 1 ∷ 0 ∷ 2 ∷ 1 ∷ 2 ∷ []) (2 ∷ 1 ∷ 2 ∷ 1 ∷ 2 ∷ 1 ∷ [])

abbrev pub E : Tables
E = tables_of (2 ∷ 2 ∷ 1 ∷ []) (0 ∷ 2 ∷ []) (0 ∷ 1 ∷ [])

abbrev pub plan_of_e : Decision
plan_of_e = decided (solved (1 ∷ 0 ∷ 0 ∷ []))

unfoldable pub harbour_cases : List Case
harbour_cases =
    case Bt A ample ample (decided (solved [])) 0 0
    ∷ case Bt D ample ample (decided no_plan) 10 10
    ∷ case Cbj D ample ample (decided no_plan) 10 10
    ∷ case Bm D ample ample (decided no_plan) 10 10
    ∷ case Fc D ample ample (decided no_plan) 10 4
    ∷ case FcCbj D ample ample (decided no_plan) 10 4
    ∷ case Bt E ample ample plan_of_e 3 8
    ∷ case Cbj E ample ample plan_of_e 2 6
    ∷ case Bm E ample ample plan_of_e 2 8
    ∷ case Fc E ample ample plan_of_e 2 4
    ∷ case FcCbj E ample ample plan_of_e 2 4
    ∷ case Bt D 9 ample (undecided Checks) 9 10
    ∷ case Bt D ample 9 (undecided Trials) 9 9
    ∷ []

-- ---- what the harbour cases do not see
-- BM with marks of listed boats only says 'no plan' here
abbrev pub V2 : Tables
V2 = tables_of (1 ∷ 2 ∷ 1 ∷ 1 ∷ []) (0 ∷ 2 ∷ 0 ∷ 3 ∷ 1 ∷ 3 ∷ []) (1 ∷ 1 ∷ 0 ∷ 1 ∷ [])

-- FC that goes on after an emptied boat makes 2 checks here
abbrev pub V3 : Tables
V3 = tables_of (1 ∷ 1 ∷ 1 ∷ []) (0 ∷ 1 ∷ 0 ∷ 2 ∷ []) (0 ∷ 0 ∷ [])

-- FC-CBJ that blames the boats listed with j, whether they struck or not, makes 4 checks and 4 trials here
abbrev pub V4 : Tables
V4 = tables_of (2 ∷ 1 ∷ 1 ∷ []) (0 ∷ 1 ∷ 1 ∷ 2 ∷ []) (1 ∷ 1 ∷ 0 ∷ [])

-- CBJ that leaves the sets of h + 1 to i as they were makes other counts here
abbrev pub V10 : Tables
V10 = tables_of (3 ∷ 1 ∷ 1 ∷ []) (0 ∷ 1 ∷ 1 ∷ 2 ∷ []) (0 ∷ 1 ∷ 0 ∷ 0 ∷ [])

-- CBJ that loses a boat's set as it moves forward, or puts the set handed down in place of h's, makes 7 checks and 6 trials here; FC-CBJ that leaves i's
-- blamers out makes 7 checks and 3 trials; FC that empties a boat by one trial's strikes alone makes 10 checks; BM that marks all slots of a boat at once,
-- and FC that puts back what earlier boats struck, say 'solved'
abbrev pub W1 : Tables
W1 = tables_of (1 ∷ 2 ∷ 3 ∷ 1 ∷ []) (0 ∷ 2 ∷ 1 ∷ 2 ∷ 1 ∷ 3 ∷ 2 ∷ 3 ∷ []) (6 ∷ 5 ∷ 1 ∷ 1 ∷ 1 ∷ 1 ∷ 1 ∷ 0 ∷ [])

-- CBJ that hands down nothing makes 4 checks and 4 trials here
abbrev pub W2 : Tables
W2 = tables_of (2 ∷ 1 ∷ 2 ∷ []) (0 ∷ 1 ∷ 0 ∷ 2 ∷ 1 ∷ 2 ∷ []) (1 ∷ 0 ∷ 1 ∷ 0 ∷ 0 ∷ [])

-- CBJ that empties the set of i alone makes 11 checks and 12 trials here
abbrev pub W3 : Tables
W3 = tables_of (3 ∷ 2 ∷ 1 ∷ []) (0 ∷ 1 ∷ 0 ∷ 2 ∷ 1 ∷ 2 ∷ []) (2 ∷ 3 ∷ 0 ∷ 0 ∷ 1 ∷ 1 ∷ 0 ∷ 0 ∷ [])

-- FC-CBJ that blames a boat for slots that were struck before makes 6 checks and 4 trials here
abbrev pub W4 : Tables
W4 = tables_of (1 ∷ 2 ∷ 2 ∷ 1 ∷ []) (0 ∷ 2 ∷ 1 ∷ 2 ∷ 1 ∷ 3 ∷ 2 ∷ 3 ∷ []) (1 ∷ 1 ∷ 2 ∷ 1 ∷ 1 ∷ 0 ∷ 1 ∷ [])

-- FC-CBJ that puts back what h struck, and not what the boats after it struck, makes 13 checks here
abbrev pub W5 : Tables
W5 = tables_of (2 ∷ 1 ∷ 3 ∷ 2 ∷ 2 ∷ []) (0 ∷ 2 ∷ 1 ∷ 4 ∷ 2 ∷ 3 ∷ []) (1 ∷ 2 ∷ 1 ∷ 0 ∷ 0 ∷ 1 ∷ [])

-- BM that sets b of the later boats where it should lower it says 'no plan' here
abbrev pub W6 : Tables
W6 = tables_of (1 ∷ 2 ∷ 1 ∷ 1 ∷ []) (1 ∷ 2 ∷ []) (0 ∷ 1 ∷ [])

-- FC-CBJ that leaves the sets of h + 1 to i as they were makes 9 checks and 5 trials here
abbrev pub W7 : Tables
W7 = tables_of (3 ∷ 1 ∷ 2 ∷ []) (0 ∷ 2 ∷ 1 ∷ 2 ∷ []) (2 ∷ 3 ∷ 0 ∷ 0 ∷ [])

abbrev pub plan_of_v2 : Decision
plan_of_v2 = decided (solved (0 ∷ 1 ∷ 0 ∷ 0 ∷ []))

unfoldable pub further_cases : List Case
further_cases =
    case Bt V2 ample ample plan_of_v2 6 7
    ∷ case Cbj V2 ample ample plan_of_v2 6 7
    ∷ case Bm V2 ample ample plan_of_v2 4 7
    ∷ case Fc V2 ample ample plan_of_v2 4 5
    ∷ case FcCbj V2 ample ample plan_of_v2 4 5
    ∷ case Bt V3 ample ample (decided no_plan) 1 2
    ∷ case Cbj V3 ample ample (decided no_plan) 1 2
    ∷ case Bm V3 ample ample (decided no_plan) 1 2
    ∷ case Fc V3 ample ample (decided no_plan) 1 1
    ∷ case FcCbj V3 ample ample (decided no_plan) 1 1
    ∷ case Bt V4 ample ample (decided no_plan) 4 6
    ∷ case Cbj V4 ample ample (decided no_plan) 2 3
    ∷ case Bm V4 ample ample (decided no_plan) 4 6
    ∷ case Fc V4 ample ample (decided no_plan) 4 4
    ∷ case FcCbj V4 ample ample (decided no_plan) 2 2
    ∷ case Bt V10 ample ample (decided no_plan) 4 7
    ∷ case Cbj V10 ample ample (decided no_plan) 3 5
    ∷ case Bm V10 ample ample (decided no_plan) 4 7
    ∷ case Fc V10 ample ample (decided no_plan) 4 4
    ∷ case FcCbj V10 ample ample (decided no_plan) 3 3
    ∷ case Bt W1 ample ample (decided no_plan) 12 10
    ∷ case Cbj W1 ample ample (decided no_plan) 12 10
    ∷ case Bm W1 ample ample (decided no_plan) 9 10
    ∷ case Fc W1 ample ample (decided no_plan) 9 4
    ∷ case FcCbj W1 ample ample (decided no_plan) 9 4
    ∷ case Bt W2 ample ample (decided no_plan) 5 6
    ∷ case Cbj W2 ample ample (decided no_plan) 5 6
    ∷ case Bm W2 ample ample (decided no_plan) 5 6
    ∷ case Fc W2 ample ample (decided no_plan) 5 3
    ∷ case FcCbj W2 ample ample (decided no_plan) 5 3
    ∷ case Bt W3 ample ample (decided no_plan) 11 12
    ∷ case Cbj W3 ample ample (decided no_plan) 9 9
    ∷ case Bm W3 ample ample (decided no_plan) 10 12
    ∷ case Fc W3 ample ample (decided no_plan) 10 5
    ∷ case FcCbj W3 ample ample (decided no_plan) 8 4
    ∷ case Bt W4 ample ample (decided no_plan) 8 8
    ∷ case Cbj W4 ample ample (decided no_plan) 5 5
    ∷ case Bm W4 ample ample (decided no_plan) 6 8
    ∷ case Fc W4 ample ample (decided no_plan) 6 4
    ∷ case FcCbj W4 ample ample (decided no_plan) 5 3
    ∷ case Bt W5 ample ample (decided no_plan) 10 14
    ∷ case Cbj W5 ample ample (decided no_plan) 10 14
    ∷ case Bm W5 ample ample (decided no_plan) 10 14
    ∷ case Fc W5 ample ample (decided no_plan) 14 6
    ∷ case FcCbj W5 ample ample (decided no_plan) 14 6
    ∷ case Bt W6 ample ample plan_of_v2 2 6
    ∷ case Cbj W6 ample ample plan_of_v2 2 6
    ∷ case Bm W6 ample ample plan_of_v2 2 6
    ∷ case Fc W6 ample ample plan_of_v2 2 5
    ∷ case FcCbj W6 ample ample plan_of_v2 2 5
    ∷ case Bt W7 ample ample (decided no_plan) 9 12
    ∷ case Cbj W7 ample ample (decided no_plan) 7 8
    ∷ case Bm W7 ample ample (decided no_plan) 9 12
    ∷ case Fc W7 ample ample (decided no_plan) 9 5
    ∷ case FcCbj W7 ample ample (decided no_plan) 7 4
    ∷ []

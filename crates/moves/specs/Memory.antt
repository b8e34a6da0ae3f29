-- What each method remembers, from the working words, and what is known of the words. A method is a forward and a backward move.
use Rattle.std.specs.Prelude.{List, ℕ, take}
use Rattle.problem.specs.Tables.{Tables}
use Rattle.problem.specs.declared.Method.{Method}
use Rattle.problem.specs.declared.Method.TheVariants.{Bt, Cbj, Bm, Fc, FcCbj}
use Rattle.events.specs.Events.{Search}
use Rattle.methods.specs.Machine.{Steps, search_from}
use Rattle.methods.specs.BT.{looking_back}
use Rattle.methods.specs.BM.{Marks, bm}
use Rattle.methods.specs.ByPlan.{ahead_by_plan}
use Rattle.words.specs.Places.{set_at}
use Rattle.words.specs.Layout.{word}
use Rattle.words.specs.Sets.{set_words, SetsBelow}
use Rattle.visits.specs.declared.Backward.{Backward}
use Rattle.visits.specs.declared.Backward.TheVariants.{OneBack, BySets}
use Rattle.visits.specs.Visits.{State, steps_over, state}
use Rattle.looking_back.specs.Kept.{KeptBack}
use Rattle.marks.specs.Marks.{marks_of}
use Rattle.marks.specs.Kept.{KeptMarked}
use Rattle.live_words.specs.Kept.{KeptAhead}
use Rattle.moves.specs.declared.Moves.{Moves}
use Rattle.moves.specs.declared.Moves.TheVariants.{LookingBack, Marking, LookingAhead}

-- ---- the moves of each method
abbrev pub moves_of : Method → Moves
moves_of Bt = LookingBack OneBack
moves_of Cbj = LookingBack BySets
moves_of Bm = Marking
moves_of Fc = LookingAhead OneBack
moves_of FcCbj = LookingAhead BySets

-- ---- the steps in the form that the code follows: looking ahead goes by the plan so far alone
abbrev pub Memory : Moves → Type 0
Memory (LookingBack backward) = State backward
Memory Marking = Marks
Memory (LookingAhead backward) = State backward

abbrev pub steps_by : (moves : Moves) → Tables → Steps (Memory moves)
steps_by (LookingBack backward) t = steps_over t (looking_back t) backward
steps_by Marking t = bm t
steps_by (LookingAhead backward) t = steps_over t (ahead_by_plan t) backward

-- what is remembered at boat i
abbrev pub memory : (moves : Moves) → List ℕ → (i : ℕ) → Memory moves
memory (LookingBack backward) w i = state backward (set_words w i (word w (set_at i)))
memory Marking w i = marks_of w
memory (LookingAhead backward) w i = state backward (set_words w i (word w (set_at i)))

-- what is to come at boat i, from slot a on
abbrev pub to_come_at : (moves : Moves) → Tables → List ℕ → (i a : ℕ) → Search
to_come_at moves t w i a = search_from t (steps_by moves t) (take i w) a (memory moves w i)

-- ---- what is known of the words at boat i, the boats below it being placed
-- of the conflict sets, where the way back goes by them
abbrev pub SetsKept : Backward → List ℕ → (i : ℕ) → Type 0
SetsKept OneBack w i = Unit {0}
SetsKept BySets w i = SetsBelow w i

pub record WithSets (backward : Backward) (K : Type 0) (w : List ℕ) (i : ℕ) : Type 0 where
  pub words : K
  pub sets : SetsKept backward w i

abbrev pub Kept : Moves → Tables → List ℕ → (i : ℕ) → Type 0
Kept (LookingBack backward) t w i = WithSets backward (KeptBack t w i) w i
Kept Marking t w i = KeptMarked t w i
Kept (LookingAhead backward) t w i = WithSets backward (KeptAhead backward t w i) w i

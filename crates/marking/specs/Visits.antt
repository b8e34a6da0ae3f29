-- What a visit that goes by marks comes to.
use Rattle.std.specs.Prelude.{List, ℕ, take}
use Rattle.problem.specs.Tables.{Tables}
use Rattle.problem.specs.declared.Allowance.TheVariants.{Checks, Trials}
use Rattle.events.specs.declared.Counts.{Counts}
use Rattle.methods.specs.BM.{bm}
use Rattle.visits.specs.declared.Visited.{Visited}
use Rattle.visits.specs.declared.Visited.TheVariants.{Passed, Spent, OutOfChecks, OutOfTrials}
use Rattle.visits.specs.Visits.{Passes, Spends, RunsOut}
use Rattle.marks.specs.Marks.{marks_of}

-- a visit of boat i under the words w, from slot a on, leaves the words w'. A trial writes its mark when it is over: where the run ends inside one, w' has the marks from before it
module _ (t : Tables) (w : List ℕ) (i a : ℕ) (m : Counts) (w' : List ℕ) where
  abbrev pub VisitsMarked : Visited → Type 0
  VisitsMarked (Passed k u b) = Passes t (bm t) (take i w) a (marks_of w) m b (marks_of w') k
  VisitsMarked (Spent k u) = Spends t (bm t) (take i w) a (marks_of w) m (marks_of w') k
  VisitsMarked (OutOfChecks k u b made) = RunsOut t (bm t) (take i w) a (marks_of w) m Checks b (marks_of w') made k
  VisitsMarked (OutOfTrials k u b) = RunsOut t (bm t) (take i w) a (marks_of w) m Trials b (marks_of w') 0 k

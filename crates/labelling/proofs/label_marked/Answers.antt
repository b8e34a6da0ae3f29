-- The visit has left its marks: a slot that passed is held.
use Rattle.std.proofs.Common.{arith}
use Rattle.words.proofs.ChangedOnly.{only_widen}
use Rattle.labelling.proofs.Labels.{AfterMarked, marked_passed, marked_spent, marked_checks, marked_trials}
use Rattle.labelling.proofs.label_marked.Goals as goal
use Rattle.labelling.proofs.label_marked.Goals.{After-visit}

visited : (c : After-visit) → let a = c.args in AfterMarked c.args.tables.now a.work.now a.i a.from a.start c.visit.new.work c.visit.result
visited c =
    let few = c.requires.standing.sane.few_boats in
    record {
      standing = c.requires.standing;
      kept = c.requires.kept;
      visits = c.visit.ensures.visits_marked;
      only = only_widen (omega arith) (omega (arith, c.requires.standing.boat)) c.visit.ensures.changed_only;
    }

pub returns-in-Passed : goal.returns-in-Passed
returns-in-Passed c =
    let a = c.in-Passed in
    marked_passed (visited (goal.at.returns-in-Passed c).After-visit) a.slot a.field-1 a.k a.is

pub returns-in-Spent : goal.returns-in-Spent
returns-in-Spent c =
    let a = c.in-Spent in
    marked_spent (visited (goal.at.returns-in-Spent c).After-visit) a.field-1 a.k a.is

pub returns-in-OutOfChecks : goal.returns-in-OutOfChecks
returns-in-OutOfChecks c =
    let a = c.in-OutOfChecks in
    marked_checks (visited (goal.at.returns-in-OutOfChecks c).After-visit) a.slot a.set a.made a.k a.is

pub returns-in-OutOfTrials : goal.returns-in-OutOfTrials
returns-in-OutOfTrials c =
    let a = c.in-OutOfTrials in
    marked_trials (visited (goal.at.returns-in-OutOfTrials c).After-visit) a.slot a.set a.k a.is

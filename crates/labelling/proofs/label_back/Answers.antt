-- The visit's answer goes into the words: a slot that passed with its set, or the set alone.
use Rattle.methods.specs.BT.{looking_back}
use Rattle.words.proofs.ChangedOnly.{only_refl}
use Rattle.labelling.proofs.Labels.{AfterVisit, back_passed, back_spent, back_checks, back_trials}
use Rattle.labelling.proofs.label_back.Goals as goal
use Rattle.labelling.proofs.label_back.Goals.{After-visit}

visited : (c : After-visit) →
    let a = c.args in
    AfterVisit c.args.tables.now (looking_back c.args.tables.now) a.backward a.work.now a.i a.from c.begun_set-with.result a.start a.work.now c.visit.result
visited c = record {
  standing = c.requires.standing;
  begun = c.begun_set-with.ensures;
  sets = c.requires.kept.sets;
  visits = c.visit.ensures c.args.backward;
  only = only_refl _ _ _;
}

pub returns-in-Passed : goal.returns-in-Passed
returns-in-Passed c =
    let a = c.in-Passed in
    rw c.store_passed.ensures
    (back_passed (visited (goal.at.returns-in-Passed c).After-visit) c.requires.kept.words a.slot a.set a.k a.is)

pub returns-in-Spent : goal.returns-in-Spent
returns-in-Spent c =
    let a = c.in-Spent in
    rw c.store_set.ensures (back_spent (visited (goal.at.returns-in-Spent c).After-visit) c.requires.kept.words a.set a.k a.is)

pub returns-in-OutOfChecks : goal.returns-in-OutOfChecks
returns-in-OutOfChecks c =
    let a = c.in-OutOfChecks in
    back_checks (visited (goal.at.returns-in-OutOfChecks c).After-visit) c.requires.kept.words a.slot a.set a.made a.k a.is

pub returns-in-OutOfTrials : goal.returns-in-OutOfTrials
returns-in-OutOfTrials c =
    let a = c.in-OutOfTrials in
    back_trials (visited (goal.at.returns-in-OutOfTrials c).After-visit) c.requires.kept.words a.slot a.set a.k a.is

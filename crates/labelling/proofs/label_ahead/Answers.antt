-- The visit's answer goes into the words: a slot that passed with its set and whom its losses blame, or the set alone.
use Rattle.std.proofs.Common.{subst, arith}
use Rattle.methods.specs.ByPlan.{ahead_by_plan}
use Rattle.words.proofs.ChangedOnly.{only_widen}
use Rattle.looking_ahead.specs.Ahead.{LivesAfter}
use Rattle.labelling.proofs.Labels.{AfterVisit, ahead_blaming, ahead_blames, ahead_passed, ahead_spent, ahead_checks, ahead_trials}
use Rattle.labelling.proofs.label_ahead.Goals as goal
use Rattle.labelling.proofs.label_ahead.Goals.{After-visit}

visited : (c : After-visit) →
    let a = c.args in
    AfterVisit c.args.tables.now (ahead_by_plan c.args.tables.now) a.backward a.work.now a.i a.from c.begun_set-with.result a.start c.visit.new.work c.visit.result
visited c = record {
  standing = c.requires.standing;
  begun = c.begun_set-with.ensures;
  sets = c.requires.kept.sets;
  visits = c.visit.ensures.visits;
  only = only_widen (omega arith) (omega arith) c.visit.ensures.changed_only;
}

pub blame-requires : goal.blame-requires
blame-requires c =
    let v = visited (goal.at.blame-requires c).After-visit in
    let a = c.in-Passed in
    rw c.store_passed.ensures (record {
      blaming = ahead_blaming v c.requires.kept.words c.visit.ensures.changed_only a.slot a.set;
      blames_kept = ahead_blames v c.requires.kept.words c.visit.ensures.changed_only a.slot a.set;
    })

pub returns-in-Passed : goal.returns-in-Passed
returns-in-Passed c =
    let v = visited (goal.at.returns-in-Passed c).After-visit in
    let a = c.in-Passed in
    ahead_passed v c.requires.kept.words c.visit.ensures.changed_only a.slot a.set a.k a.is
    (subst (LivesAfter c.args.tables.now c.args.work.now c.args.i c.visit.new.work) a.is c.visit.ensures.lives_after)
    (rw c.store_passed.ensures at c.blame.ensures.changed_only) c.blame.ensures.blames_kept_2

pub returns-in-Spent : goal.returns-in-Spent
returns-in-Spent c =
    let v = visited (goal.at.returns-in-Spent c).After-visit in
    let a = c.in-Spent in
    rw c.store_set.ensures (ahead_spent v c.requires.kept.words c.visit.ensures.changed_only a.set a.k a.is)

pub returns-in-OutOfChecks : goal.returns-in-OutOfChecks
returns-in-OutOfChecks c =
    let v = visited (goal.at.returns-in-OutOfChecks c).After-visit in
    let a = c.in-OutOfChecks in
    ahead_checks v c.requires.kept.words c.visit.ensures.changed_only a.slot a.set a.made a.k a.is

pub returns-in-OutOfTrials : goal.returns-in-OutOfTrials
returns-in-OutOfTrials c =
    let v = visited (goal.at.returns-in-OutOfTrials c).After-visit in
    let a = c.in-OutOfTrials in
    ahead_trials v c.requires.kept.words c.visit.ensures.changed_only a.slot a.set a.k a.is

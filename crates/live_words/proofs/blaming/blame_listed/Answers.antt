use Rattle.live_words.proofs.Blamed.{blamed_none, blamed_next, blamed_all}
use Rattle.live_words.proofs.blaming.blame_listed.Goals as goal

pub loop-pair-init : goal.loop-pair-init
loop-pair-init c = blamed_none c.requires.blaming

pub loop-pair-preserved : goal.loop-pair-preserved
loop-pair-preserved c =
    blamed_next c.requires.blaming c.requires.blames c.loop-pair.invariant c.loop-pair-test.true c.with_member_if.result c.with_member_if.ensures

pub returns-clause-blames_2 : goal.returns-clause-blames_2
returns-clause-blames_2 c = blamed_all c.requires.blaming c.requires.blames c.loop-pair.invariant c.loop-pair-test.false

-- Each boat's pairs, then where the live words stand, then all slots: each leaves what was right before.
use Rattle.std.proofs.Common.{arith}
use Rattle.words.proofs.ChangedOnly.{only_widen}
use Rattle.moves.specs.Prepared.{PreparedAhead}
use Rattle.moves.proofs.Prepared.{prepared_ahead, prepared_looking_ahead}
use Rattle.moves.proofs.preparing.prepare_ahead.Goals as goal

pub returns : goal.returns
returns c backward =
    let t = c.args.tables.now in
    let a = c.index_ahead.ensures in
    let b = c.chain_ahead.ensures in
    let d = c.fill_slots.ensures in
    let p : PreparedAhead t c.args.work.now c.fill_slots.new.work =
    prepared_ahead t c.args.work.now c.index_ahead.new.work c.chain_ahead.new.work c.fill_slots.new.work c.keep_every_rule.ensures
    a.firsts a.changed_only b.chained b.changed_only d.lives d.changed_only in
    prepared_looking_ahead backward c.requires.1 (only_widen (omega arith) (omega arith) p.only) t c.keep_every_rule.ensures.few_boats p

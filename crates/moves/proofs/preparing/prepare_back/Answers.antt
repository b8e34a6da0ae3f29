-- The words before those that are written, and those after them, are 0 still.
use Rattle.std.proofs.Common.{arith}
use Rattle.words.proofs.ChangedOnly.{only_widen}
use Rattle.moves.proofs.Prepared.{prepared_back}
use Rattle.moves.proofs.preparing.prepare_back.Goals as goal

pub returns : goal.returns
returns c backward =
    prepared_back backward c.requires.1 (only_widen (omega arith) (omega arith) c.link_back.ensures.changed_only) c.args.tables.now c.link_back.ensures.linked

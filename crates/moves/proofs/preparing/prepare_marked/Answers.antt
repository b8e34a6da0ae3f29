-- The words before those that are written, and those after them, are 0 still.
use Rattle.moves.proofs.Prepared.{prepared_marking}
use Rattle.moves.proofs.preparing.prepare_marked.Goals as goal

pub returns : goal.returns
returns c = prepared_marking c.args.tables.now c.requires.1 c.index_back.ensures.indexed c.index_back.ensures.changed_only

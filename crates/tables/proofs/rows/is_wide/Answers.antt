-- No word has a bit at or above 64; below that the shift tells.
use Rattle.tables.proofs.Words.{shifted_wide}
use Rattle.tables.proofs.rows.is_wide.Goals as goal

pub returns : goal.returns
returns c = shifted_wide c.args.word c.args.size

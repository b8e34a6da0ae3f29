use Rattle.tables.proofs.Fine.{fine_sane}
use Rattle.tables.proofs.examined.FineTables.fine.Goals as goal

pub invariant_of-fine : goal.invariant_of-fine
invariant_of-fine c = fine_sane _ c.requires

use Rattle.problem.specs.Tables.{tables}
use Rattle.tables.proofs.examined.FineTables.new.Given as goal

abbrev pub ghost-all_good : goal.ghost-all_good
ghost-all_good a = tables a.sizes.now a.pairs.now a.rows.now

-- A refusal of the tables is the writer's too.
use Rattle.writer.proofs.Answers.{refused_written}
use Rattle.writer.proofs.write.Goals as goal

pub returns-in_err-tables : goal.returns-in_err-tables
returns-in_err-tables c =
    let s = refused_written _ _ c.from_residual.result _ c.from_residual.ensures.1 c.in_err-tables.ensures.told in
    record { result_value = s.0; file_after = s.1 }

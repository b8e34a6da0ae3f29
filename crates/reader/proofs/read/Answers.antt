-- What both passes found: a refusal, or tables that stand and are examined.
use Rattle.tables.specs.Examination.{examination}
use Rattle.tables.specs.Replies.{examined_told}
use Rattle.files.specs.Reading.{reading}
use Rattle.files.specs.Rooms.{rooms}
use Rattle.files.specs.Reader.{read_result}
use Rattle.reader.proofs.Reader.{refused_loaded, standing, asked}
use Rattle.reader.proofs.read.Goals as goal

pub returns-in-Err : goal.returns-in-Err
unfolding read_result
returns-in-Err c = let a = c.args in refused_loaded examination (reading a.file.now) (rooms a.sizes.now a.pairs.now a.rows.now) _ _ c.in-Err.ensures

pub returns-in-Ok : goal.returns-in-Ok
unfolding read_result
returns-in-Ok c =
    let a = c.args in
    asked _ _ _ _ _ _ (standing (reading a.file.now) (rooms a.sizes.now a.pairs.now a.rows.now) _ _ _ _ c.in-Ok.ensures) examination (examined_told c.examine.result) c.examine.ensures

-- The answer is read off the first broken pair.
use Rattle.questions.proofs.Judging.{answered_alike}
use Rattle.questions.proofs.is_lawful.Goals as goal

pub returns : goal.returns
returns c = answered_alike _ _ _ _ c.is_none-lawful.ensures c.in_ok-first_broken.ensures

use Rattle.moving.proofs.back.LookingBackMoving.prepare.Goals as goal

pub returns : goal.returns
returns g c = c.prepare_back.ensures _

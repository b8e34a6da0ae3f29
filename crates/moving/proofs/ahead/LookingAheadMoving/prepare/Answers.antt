use Rattle.moving.proofs.ahead.LookingAheadMoving.prepare.Goals as goal

pub returns : goal.returns
returns g c = c.prepare_ahead.ensures _

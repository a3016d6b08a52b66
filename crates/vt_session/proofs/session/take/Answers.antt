use Rattle.vt_session.proofs.Takings.{answered, takes_cleared}
use Rattle.vt_session.proofs.session.take.Goals as goal

pub returns : goal.returns
returns c = answered _ _ _ _ _ c.in_default.ensures c.in-Some-input.is (takes_cleared _ _ _ _ _ c.take_one.ensures)

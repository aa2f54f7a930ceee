use Rattle.pts_core.proofs.Histories.{histories_grow}
use Rattle.pts_core.proofs.laws.histories_grow.Goals as goal

pub returns : goal.returns
returns c = histories_grow

use Rattle.pts_core.proofs.Fronts.{fronts_stay}
use Rattle.pts_core.proofs.laws.fronts_stay.Goals as goal

pub returns : goal.returns
returns c = fronts_stay

use Rattle.pts_image.proofs.Grafted.{graft_valid}
use Rattle.pts_image.proofs.laws.grafts_are_valid.Goals as goal

pub returns : goal.returns
returns c = graft_valid

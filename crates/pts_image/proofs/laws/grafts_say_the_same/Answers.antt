use Rattle.pts_image.proofs.Grafted.{graft_says}
use Rattle.pts_image.proofs.laws.grafts_say_the_same.Goals as goal

pub returns : goal.returns
returns c = graft_says

use Rattle.pts_modules.proofs.Once.{once}
use Rattle.pts_modules.proofs.laws.modules_have_one_order.Goals as goal

pub returns : goal.returns
returns c files names o p d e = once files d e

use Rattle.pts_image.proofs.Fixed.{assumption_interpreted}
use Rattle.pts_image.proofs.laws.assumptions_are_interpreted.Goals as goal

pub returns : goal.returns
returns c = assumption_interpreted

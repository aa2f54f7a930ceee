use Rattle.pts_image.proofs.Fixed.{base_interpreted}
use Rattle.pts_image.proofs.laws.bases_are_interpreted.Goals as goal

pub returns : goal.returns
returns c = base_interpreted

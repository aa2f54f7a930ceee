use Rattle.pts_image.proofs.Fixed.{base_renamed}
use Rattle.pts_image.proofs.laws.bases_are_renamed.Goals as goal

pub returns : goal.returns
returns c = base_renamed

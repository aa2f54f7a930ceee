use Rattle.pts_image.proofs.Numbered.{after_valid}
use Rattle.pts_image.proofs.laws.images_are_valid.Goals as goal

pub returns : goal.returns
returns c = after_valid

use Rattle.pts_image.proofs.Numbered.{after_concludes}
use Rattle.pts_image.proofs.laws.images_conclude.Goals as goal

pub returns : goal.returns
returns c = after_concludes

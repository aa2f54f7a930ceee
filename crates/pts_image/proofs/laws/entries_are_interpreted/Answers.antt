use Rattle.pts_image.proofs.Fixed.{entry_interpreted}
use Rattle.pts_image.proofs.laws.entries_are_interpreted.Goals as goal

pub returns : goal.returns
returns c = entry_interpreted

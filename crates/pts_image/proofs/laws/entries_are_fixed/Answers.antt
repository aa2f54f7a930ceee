use Rattle.pts_image.proofs.Fixed.{entry_fixed}
use Rattle.pts_image.proofs.laws.entries_are_fixed.Goals as goal

pub returns : goal.returns
returns c = λ S G f closed l h x e p. entry_fixed f closed l h x e p

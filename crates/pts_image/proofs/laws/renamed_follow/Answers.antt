use Rattle.pts_image.proofs.Fixed.{renamed_follow as lemma}
use Rattle.pts_image.proofs.laws.renamed_follow.Goals as goal

pub returns : goal.returns
returns c = lemma

use Rattle.pts_image.proofs.Fixed.{judgement_fixed}
use Rattle.pts_image.proofs.laws.judgements_are_fixed.Goals as goal

pub returns : goal.returns
returns c = judgement_fixed

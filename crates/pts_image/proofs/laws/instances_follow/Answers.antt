use Rattle.pts_image.proofs.Next.{instances_follow as lemma}
use Rattle.pts_image.proofs.laws.instances_follow.Goals as goal

pub returns : goal.returns
returns c = lemma

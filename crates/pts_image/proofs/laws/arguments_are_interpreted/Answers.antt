use Rattle.pts_image.proofs.Next.{arguments_interpreted}
use Rattle.pts_image.proofs.laws.arguments_are_interpreted.Goals as goal

pub returns : goal.returns
returns c = arguments_interpreted

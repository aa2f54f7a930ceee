use Rattle.pts_image.proofs.Substituted.{substituted_concludes}
use Rattle.pts_image.proofs.laws.substituted_records_conclude.Goals as goal

pub returns : goal.returns
returns c = substituted_concludes

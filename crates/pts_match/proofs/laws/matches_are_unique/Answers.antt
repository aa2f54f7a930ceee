use Rattle.pts_match.proofs.Solutions.{matches_unique}
use Rattle.pts_match.proofs.laws.matches_are_unique.Goals as goal

pub returns : goal.returns
returns c = matches_unique

use Rattle.pts_match.proofs.Solutions.{matches_complete}
use Rattle.pts_match.proofs.laws.matches_are_complete.Goals as goal

pub returns : goal.returns
returns c = matches_complete

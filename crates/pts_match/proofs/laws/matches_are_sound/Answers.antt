use Rattle.pts_match.proofs.Solutions.{matches_sound}
use Rattle.pts_match.proofs.laws.matches_are_sound.Goals as goal

pub returns : goal.returns
returns c = matches_sound

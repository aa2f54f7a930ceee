use Rattle.pts_play.proofs.OneInput.{says_one}
use Rattle.pts_play.proofs.laws.lines_say_one_thing.Goals as goal

pub returns : goal.returns
returns g c numbered line i j a b = says_one g.R.Rounds.is_text numbered line i j a b

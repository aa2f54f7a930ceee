use Rattle.pts_goals.proofs.OneTerm.{steps_make_one}
use Rattle.pts_goals.proofs.laws.steps_make_one_term.Goals as goal

pub returns : goal.returns
returns c = steps_make_one

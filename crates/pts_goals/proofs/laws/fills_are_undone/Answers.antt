use Rattle.pts_goals.proofs.Undo.{undone}
use Rattle.pts_goals.proofs.laws.fills_are_undone.Goals as goal

pub returns : goal.returns
returns c = undone

use Rattle.pts_printed.proofs.laws.locals_are_told_apart.Goals as goal
use Rattle.pts_printed.proofs.Least.{locals_apart}

pub returns : goal.returns
returns c = locals_apart

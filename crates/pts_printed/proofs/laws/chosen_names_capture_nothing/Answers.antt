use Rattle.pts_printed.proofs.laws.chosen_names_capture_nothing.Goals as goal
use Rattle.pts_printed.proofs.ReadBack.{names_capture_nothing}

pub returns : goal.returns
returns c = names_capture_nothing

use Rattle.pts_printed.proofs.laws.sorts_of_systems_stand_once.Goals as goal
use Rattle.pts_printed.proofs.Sorts.{each_sort_once}

pub returns : goal.returns
returns c = each_sort_once

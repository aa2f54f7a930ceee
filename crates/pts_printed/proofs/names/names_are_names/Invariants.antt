use Rattle.std.proofs.Common.{take}
use Rattle.std.specs.List.{AllByRecursion}
use Rattle.pts_printed.specs.Laws.{IsName}
use Rattle.pts_printed.proofs.names.names_are_names.Given as goal

abbrev pub invariant-loop-name : goal.invariant-loop-name
invariant-loop-name l = AllByRecursion IsName (take l.name-index l.names)

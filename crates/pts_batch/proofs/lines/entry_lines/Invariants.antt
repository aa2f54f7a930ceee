use Rattle.std.proofs.Common.{◌≡◌, ◌++◌, map, drop}
use Rattle.pts_check.specs.Entered.{declared_entries}
use Rattle.pts_batch.specs.Batches.{entry_line}
use Rattle.pts_batch.proofs.lines.entry_lines.Given as goal

abbrev pub invariant-loop-declaration : goal.invariant-loop-declaration
invariant-loop-declaration l = l.lines.items ++ map (entry_line l.system.sorts) (declared_entries (drop l.declaration-index l.declarations)) ≡ map (entry_line l.system.sorts) (declared_entries l.declarations)

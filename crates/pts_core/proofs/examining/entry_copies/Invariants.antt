use Rattle.std.proofs.Common.{◌≡◌, ◌++◌, map, drop}
use Rattle.pts_ctx.specs.Entries.{global_of}
use Rattle.pts_check.specs.Entered.{declared_entries}
use Rattle.pts_core.proofs.examining.entry_copies.Given as goal

abbrev pub invariant-loop-declaration : goal.invariant-loop-declaration
invariant-loop-declaration l = map global_of l.entries.items ++ declared_entries (drop l.declaration-index l.declarations) ≡ declared_entries l.declarations

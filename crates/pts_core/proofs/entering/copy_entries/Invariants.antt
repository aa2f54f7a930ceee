use Rattle.std.proofs.Common.{◌≡◌, ◌++◌, map, drop}
use Rattle.pts_ctx.specs.Entries.{global_of}
use Rattle.pts_core.proofs.entering.copy_entries.Given as goal

abbrev pub invariant-loop-entry : goal.invariant-loop-entry
invariant-loop-entry l = map global_of l.copies.items ++ map global_of (drop l.entry-index l.entries) ≡ map global_of l.entries

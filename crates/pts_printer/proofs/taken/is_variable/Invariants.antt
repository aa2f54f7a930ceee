use Rattle.std.proofs.Common.{◌≡◌, drop}
use Rattle.pts_printed.specs.Choice.{is_among}
use Rattle.pts_printer.proofs.taken.is_variable.Given as goal

abbrev pub invariant-loop-known : goal.invariant-loop-known
invariant-loop-known l = is_among l.name (drop l.known-index l.names) ≡ is_among l.name l.names

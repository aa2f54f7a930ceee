use Rattle.std.proofs.Common.{◌≡◌, drop}
use Rattle.pts_printed.specs.Choice.{is_among}
use Rattle.pts_printer.specs.Calls.{texts}
use Rattle.pts_printer.proofs.taken.is_constant.Given as goal

abbrev pub invariant-loop-known : goal.invariant-loop-known
invariant-loop-known l = is_among l.name (texts (drop l.known-index l.names)) ≡ is_among l.name (texts l.names)

use Rattle.std.proofs.Common.{◌≡◌, drop}
use Rattle.pts_modules.specs.Orders.{is_in}
use Rattle.pts_modules.proofs.uses.is_among.Given as goal

abbrev pub invariant-loop-other : goal.invariant-loop-other
invariant-loop-other l = is_in l.name (drop l.other-index l.names) ≡ is_in l.name l.names

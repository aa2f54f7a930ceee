use Rattle.std.proofs.Common.{◌≡◌, drop}
use Rattle.pts_modules.specs.Stacks.{is_open}
use Rattle.pts_modules.proofs.uses.is_one_of.Given as goal

abbrev pub invariant-loop-module : goal.invariant-loop-module
invariant-loop-module l = is_open l.name (drop l.module-index l.opened) ≡ is_open l.name l.opened

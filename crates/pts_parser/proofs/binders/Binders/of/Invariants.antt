use Rattle.std.proofs.Common.{◌≡◌, ◌++◌, drop}
use Rattle.pts_parser.proofs.binders.Binders.of.Given as goal

abbrev pub invariant-loop-local : goal.invariant-loop-local
invariant-loop-local l = l.names.items ++ drop l.local-index l.locals ≡ l.locals

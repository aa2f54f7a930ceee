use Rattle.std.proofs.Common.{◌≡◌, take, map}
use Rattle.pts_modules.proofs.uses.names_used.Given as goal

abbrev pub invariant-loop-line : goal.invariant-loop-line
invariant-loop-line l = l.names.items ≡ map (λ u. u.1) (take l.line-index l.fn.file.uses.items)

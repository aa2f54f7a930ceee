use Rattle.std.proofs.Common.{◌≡◌, ◌++◌, map, drop}
use Rattle.pts_core.proofs.copies.copy_all.Given as goal

abbrev pub invariant-loop-name : goal.invariant-loop-name
invariant-loop-name l = map (λ c. c.kept) l.copies.items ++ map (λ c. c.kept) (drop l.name-index l.names) ≡ map (λ c. c.kept) l.names

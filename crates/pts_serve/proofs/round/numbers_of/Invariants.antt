use Rattle.std.proofs.Common.{◌≡◌, ◌++◌, map, drop}
use Rattle.pts_serve.proofs.round.numbers_of.Given as goal

abbrev pub invariant-loop-one : goal.invariant-loop-one
invariant-loop-one g l = l.numbers.items ++ map (λ s. s.number) (drop l.one-index l.staff) ≡ map (λ s. s.number) l.staff

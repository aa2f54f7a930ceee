use Rattle.std.proofs.Common.{◌≡◌, false}
use Rattle.pts_bench.proofs.goals.grown.Given as goal

abbrev pub invariant-loop-number : goal.invariant-loop-number
invariant-loop-number l = l.proof.is_lent ≡ false

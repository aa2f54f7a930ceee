use Rattle.std.proofs.Common.{◌≡◌, false}
use Rattle.pts_bench.proofs.goals.refilling.Given as goal

abbrev pub invariant-refill : goal.invariant-refill
invariant-refill g l = l.proof.is_lent ≡ false

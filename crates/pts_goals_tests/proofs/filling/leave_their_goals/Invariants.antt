use Rattle.std.proofs.Common.{◌≡◌, false}
use Rattle.pts_goals_tests.proofs.filling.leave_their_goals.Given as goal

abbrev pub invariant-loop-by : goal.invariant-loop-by
invariant-loop-by l = l.proof.is_lent ≡ false

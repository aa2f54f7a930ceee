use Rattle.std.proofs.Common.{◌≡◌, false}
use Rattle.pts_goals_tests.proofs.undoing.are_taken_back.Given as goal

abbrev pub invariant-loop-by : goal.invariant-loop-by
invariant-loop-by l = l.proof.is_lent ≡ false

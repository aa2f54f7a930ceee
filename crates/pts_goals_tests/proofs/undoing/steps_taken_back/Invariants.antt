use Rattle.std.proofs.Common.{◌≡◌, false}
use Rattle.pts_goals_tests.proofs.undoing.steps_taken_back.Given as goal

abbrev pub invariant-loop-count : goal.invariant-loop-count
invariant-loop-count l = l.proof.is_lent ≡ false

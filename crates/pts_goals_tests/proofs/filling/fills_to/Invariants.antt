use Rattle.std.proofs.Common.{◌≡◌, false}
use Rattle.pts_goals_tests.proofs.filling.fills_to.Given as goal

abbrev pub invariant-fill : goal.invariant-fill
invariant-fill l = l.proof.is_lent ≡ false

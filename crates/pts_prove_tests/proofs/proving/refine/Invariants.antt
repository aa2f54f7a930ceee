use Rattle.std.proofs.Common.{◌≡◌, false}
use Rattle.pts_prove_tests.proofs.proving.refine.Given as goal

abbrev pub invariant-loop-command : goal.invariant-loop-command
invariant-loop-command l = l.proof.is_lent ≡ false

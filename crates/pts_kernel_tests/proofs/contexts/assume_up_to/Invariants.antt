use Rattle.std.proofs.Common.{◌≡◌}
use Rattle.pts_kernel_tests.proofs.contexts.assume_up_to.Given as goal

abbrev pub invariant-loop-number : goal.invariant-loop-number
invariant-loop-number l = l.context.labels ≡ l.fn.context.labels

use Rattle.std.proofs.Common.{◌≡◌, take}
use Rattle.pts_goals.proofs.copies.copy_steps.Given as goal

abbrev pub invariant-loop-filled : goal.invariant-loop-filled
invariant-loop-filled l = l.copy.items ≡ take l.filled-index l.steps

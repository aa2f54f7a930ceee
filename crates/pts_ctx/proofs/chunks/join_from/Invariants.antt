use Rattle.std.proofs.Common.{◌≤◌, length}
use Rattle.pts_ctx.proofs.chunks.join_from.Given as goal

abbrev pub invariant-loop-from : goal.invariant-loop-from
invariant-loop-from l = l.from ≤ length l.chunks

abbrev pub decreases-loop-from : goal.decreases-loop-from
decreases-loop-from l = l.from

use Rattle.std.proofs.Common.{◌≡◌, take}
use Rattle.pts_ctx.proofs.context.copy_labels.Given as goal

abbrev pub invariant-loop-index : goal.invariant-loop-index
invariant-loop-index l = l.copy.entries ≡ take l.index l.labels.entries

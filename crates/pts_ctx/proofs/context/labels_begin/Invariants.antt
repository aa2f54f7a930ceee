use Rattle.std.proofs.Common.{◌≡◌, drop}
use Rattle.pts_ctx.specs.Prefix.{begins, same_label}
use Rattle.pts_ctx.proofs.context.labels_begin.Given as goal

abbrev pub invariant-loop-index : goal.invariant-loop-index
invariant-loop-index l = begins same_label (drop l.index l.one.entries) (drop l.index l.other.entries) ≡ begins same_label l.one.entries l.other.entries

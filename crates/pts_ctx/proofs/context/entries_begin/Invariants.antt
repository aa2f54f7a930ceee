use Rattle.std.proofs.Common.{◌≡◌, drop}
use Rattle.pts_ctx.specs.Prefix.{begins, same_global}
use Rattle.pts_ctx.proofs.context.entries_begin.Given as goal

abbrev pub invariant-loop-place : goal.invariant-loop-place
invariant-loop-place l = begins same_global (drop l.place l.one.entries) (drop l.place l.other.entries) ≡ begins same_global l.one.entries l.other.entries

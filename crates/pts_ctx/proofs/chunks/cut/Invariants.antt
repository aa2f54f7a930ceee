use Rattle.std.proofs.Common.{◌≡◌, ◌≤◌, ◌-◌, length, take}
use Rattle.pts_ctx.specs.Chunks.{flat}
use Rattle.pts_ctx.proofs.chunks.cut.Given as goal

abbrev pub invariant-loop-left : goal.invariant-loop-left
invariant-loop-left l =
    record {
      inside : l.left ≤ length (flat l.chunks.items);
      same : take (length (flat l.chunks.items) - l.left) (flat l.chunks.items) ≡ take (length (flat l.initial.chunks.items) - l.entries) (flat l.initial.chunks.items);
    }

abbrev pub decreases-loop-left : goal.decreases-loop-left
decreases-loop-left l = length l.chunks.items

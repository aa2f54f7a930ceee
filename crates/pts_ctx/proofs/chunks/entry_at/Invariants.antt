use Rattle.std.proofs.Common.{◌≡◌, ◌<◌, length, drop, slice_get}
use Rattle.pts_ctx.specs.Chunks.{flat}
use Rattle.pts_ctx.proofs.chunks.entry_at.Given as goal

abbrev pub invariant-loop-chunk : goal.invariant-loop-chunk
invariant-loop-chunk l =
    record {
      at : slice_get (flat (drop l.chunk-index l.chunks)) l.left ≡ slice_get (flat l.chunks) l.place;
      inside : l.left < length (flat (drop l.chunk-index l.chunks));
    }

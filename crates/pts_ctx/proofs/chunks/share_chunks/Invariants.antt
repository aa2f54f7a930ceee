use Rattle.std.proofs.Common.{◌≡◌, take}
use Rattle.pts_ctx.proofs.chunks.share_chunks.Given as goal

abbrev pub invariant-loop-chunk : goal.invariant-loop-chunk
invariant-loop-chunk l = l.all.items ≡ take l.chunk-index l.chunks

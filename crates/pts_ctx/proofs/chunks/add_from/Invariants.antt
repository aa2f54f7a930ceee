use Rattle.std.proofs.Common.{◌≡◌, ◌++◌, length, take, drop}
use Rattle.pts_ctx.specs.Chunks.{flat}
use Rattle.pts_ctx.proofs.chunks.add_from.Given as goal

abbrev pub invariant-loop-chunk : goal.invariant-loop-chunk
invariant-loop-chunk l =
    record {
      rest : l.part.entries ++ drop l.skipped (flat (drop l.chunk-index l.chunks)) ≡ l.initial.part.entries ++ drop l.from (flat l.chunks);
      kept : take (length l.initial.part.entries) l.part.entries ≡ l.initial.part.entries;
    }

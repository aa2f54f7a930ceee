use Rattle.std.proofs.Common.{◌≡◌, ◌≤◌, length, take, drop, None}
use Rattle.pts_ctx.specs.Chunks.{flat}
use Rattle.pts_ctx.specs.Seen.{place_of}
use Rattle.pts_ctx.proofs.chunks.newest_place.Given as goal

abbrev pub invariant-loop-before : goal.invariant-loop-before
invariant-loop-before l =
    record {
      bound : l.before ≤ length l.chunks;
      start : l.start ≡ length (flat (take l.before l.chunks));
      behind : place_of l.name (flat (drop l.before l.chunks)) ≡ None;
    }

abbrev pub decreases-loop-before : goal.decreases-loop-before
decreases-loop-before l = l.before

use Rattle.std.proofs.Common.{◌≡◌, ◌≤◌, nat_eq, length}
use Rattle.pts_ctx.specs.Index.{last_before, is_in, bucket_of}
use Rattle.pts_ctx.proofs.index.Index.walk.Given as goal

abbrev pub invariant-loop-at : goal.invariant-loop-at
invariant-loop-at l =
    record {
      inside : l.at ≤ length l.self.hashes;
      chain : l.at ≡ last_before (is_in l.self.buckets (bucket_of l.self.buckets l.hash)) l.self.hashes l.at;
      same : last_before (nat_eq l.hash) l.self.hashes l.at ≡ last_before (nat_eq l.hash) l.self.hashes l.initial.at;
    }

abbrev pub decreases-loop-at : goal.decreases-loop-at
decreases-loop-at l = l.at

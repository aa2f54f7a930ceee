use Rattle.std.proofs.Common.{◌≡◌, ◌≤◌, min, length, vec_len}
use Rattle.pts_ctx.specs.Index.{IsChained}
use Rattle.pts_ctx.proofs.index.unchain_from.Given as goal

abbrev pub invariant-loop-place : goal.invariant-loop-place
invariant-loop-place l =
    record {
      inside : l.place ≤ length l.hashes;
      kept : min l.kept (length l.hashes) ≤ l.place;
      chained : IsChained (vec_len l.initial.heads) l.place l.heads.items l.hashes l.before;
      heads : vec_len l.heads ≡ vec_len l.initial.heads;
    }

abbrev pub decreases-loop-place : goal.decreases-loop-place
decreases-loop-place l = l.place

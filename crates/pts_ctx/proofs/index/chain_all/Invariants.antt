use Rattle.std.proofs.Common.{◌≡◌, vec_len, vec_capacity}
use Rattle.pts_ctx.specs.Index.{IsChained}
use Rattle.pts_ctx.proofs.index.chain_all.Given as goal

abbrev pub invariant-loop-place : goal.invariant-loop-place
invariant-loop-place l =
    record {
      chained : IsChained (vec_len l.initial.heads) l.place l.heads.items l.hashes l.before.items;
      heads : vec_len l.heads ≡ vec_len l.initial.heads;
      before : vec_len l.before ≡ vec_len l.initial.before;
      capacity : vec_capacity l.before ≡ vec_capacity l.initial.before;
    }

use Rattle.std.proofs.Common.{◌≡◌, ◌≤◌, length, vec_len, vec_capacity}
use Rattle.pts_ctx.proofs.part.share_last.Given as goal

abbrev pub invariant-loop-place : goal.invariant-loop-place
invariant-loop-place l =
    record {
      inside : l.place ≤ length l.slots.items;
      items : l.slots.items ≡ l.initial.slots.items;
      len : vec_len l.slots ≡ vec_len l.initial.slots;
      capacity : vec_capacity l.slots ≡ vec_capacity l.initial.slots;
    }

abbrev pub decreases-loop-place : goal.decreases-loop-place
decreases-loop-place l = l.place

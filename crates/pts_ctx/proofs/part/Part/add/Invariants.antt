use Rattle.std.proofs.Common.{◌≡◌, ◌≤◌, ◌+◌, ◌++◌, length, take}
use Rattle.pts_ctx.proofs.part.Part.add.Given as goal

abbrev pub invariant-loop-place : goal.invariant-loop-place
invariant-loop-place l =
    record {
      entries : l.self.entries ≡ l.initial.self.entries ++ take l.place l.slots;
      room : length l.slots ≤ l.self.spare + l.place;
    }

use Rattle.std.proofs.Common.{ℕ, ◌≡◌, ◌≤◌, length, ◌-◌}
use Rattle.pts_play.specs.Seats.{RunsOn, Unsettled, rank}
use Rattle.pts_play.proofs.seat.run_on.Given as goal

abbrev pub invariant-loop-seat : goal.invariant-loop-seat
invariant-loop-seat g l = record {
  settled : Unsettled (g.P.Player.free l.world) (g.P.Player.awaits l.world) l.seat;
  same : l.seat.lines.items ≡ l.fn.seat.lines.items;
  inside : l.fn.seat.next ≤ l.seat.next;
  rank : rank l.seat ≤ rank l.fn.seat;
  runs_on : RunsOn (g.P.Player.local l.world) (g.P.Player.resumes l.world) l.fn.seat l.seat;
  fits : (C : g.row.P-Core.Denot) → g.P.Player.fits l.world l.fn.seat.player C → g.P.Player.fits l.world l.seat.player C;
}

abbrev pub decreases-loop-seat : goal.decreases-loop-seat
decreases-loop-seat g l = length l.seat.lines.items - l.seat.next

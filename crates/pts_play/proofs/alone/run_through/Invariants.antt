use Rattle.pts_play.specs.Seats.{Rests, rank}
use Rattle.pts_play.specs.Alone.{RunsThrough}
use Rattle.pts_play.proofs.alone.run_through.Given as goal

abbrev pub invariant-loop : goal.invariant-loop
invariant-loop g l = record {
  rests : Rests (g.P.Player.free l.world) (g.P.Player.awaits l.world) l.seat;
  fits : g.P.Player.fits l.world l.seat.player l.core;
  works : RunsThrough (g.P.Player.local l.world) (g.P.Player.resumes l.world) g.P.Core.Table.steps l.number l.fn.core l.fn.seat l.core l.seat;
  keeps : g.P.Core.Table.keeps l.fn.core l.core;
}

abbrev pub decreases-loop : goal.decreases-loop
decreases-loop g l = rank l.seat

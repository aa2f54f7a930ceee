use Rattle.std.proofs.Common.{ℕ, List, ◌≡◌, ◌+◌}
use Rattle.pts_play.specs.Turns.{Turned, Promises, RisesFrom, rank_at}
use Rattle.pts_play.proofs.round.turns_at.Given as goal

abbrev pub invariant-loop-order : goal.invariant-loop-order
invariant-loop-order g l = record {
  turned : Turned (g.P.Player.local l.world) (g.P.Player.resumes l.world) g.P.Core.Table.steps (g.P.Player.free l.world) (g.P.Player.awaits l.world) (g.P.Player.fits l.world) l.fn.core l.fn.seats l.fn.order.items l.core l.seats l.order.items;
  promises : (numbers : List ℕ) → Promises numbers (RisesFrom (l.index + 1)) l.fn.seats l.fn.order.items → Promises numbers (RisesFrom (l.index + 1)) l.seats l.order.items;
  keeps : g.P.Core.Table.keeps l.fn.core l.core;
}

abbrev pub decreases-loop-order : goal.decreases-loop-order
decreases-loop-order g l = rank_at l.seats l.index

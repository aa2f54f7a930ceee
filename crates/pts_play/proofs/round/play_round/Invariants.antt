use Rattle.std.proofs.Common.{ℕ, List, ◌≡◌, ◌≤◌, ◌<◌, ◌+◌, suc, length, drop, false}
use Rattle.pts_play.specs.Rounds.{OrderFrom}
use Rattle.pts_play.specs.Turns.{AllRest, AllFit, InRound, Promises, RisesFrom, is_waiting_at}
use Rattle.pts_play.proofs.Closing.{all_ended}
use Rattle.pts_play.proofs.round.play_round.Given as goal

abbrev pub invariant-loop-number : goal.invariant-loop-number
invariant-loop-number g l = record {
  playing : InRound (g.P.Player.local l.world) (g.P.Player.resumes l.world) g.P.Core.Table.steps l.fn.core l.fn.seats l.core l.seats l.order.items;
  long : length l.seats ≡ length l.fn.seats;
  rest : AllRest (g.P.Player.free l.world) (g.P.Player.awaits l.world) l.seats;
  fit : AllFit (g.P.Player.fits l.world) l.core l.seats;
  promises : Promises l.fn.numbers (OrderFrom (drop l.number-index l.fn.numbers)) l.seats l.order.items;
  keeps : g.P.Core.Table.keeps l.fn.core l.core;
}

abbrev pub invariant-loop-index : goal.invariant-loop-index
invariant-loop-index g l = record {
  playing : InRound (g.P.Player.local l.world) (g.P.Player.resumes l.world) g.P.Core.Table.steps l.fn.core l.fn.seats l.core l.seats l.order.items;
  long : length l.seats ≡ length l.fn.seats;
  rest : AllRest (g.P.Player.free l.world) (g.P.Player.awaits l.world) l.seats;
  fit : AllFit (g.P.Player.fits l.world) l.core l.seats;
  promises : Promises l.fn.numbers (RisesFrom (l.index + 1)) l.seats l.order.items;
  ended : (k : ℕ) → k < l.index → is_waiting_at l.seats (suc k) ≡ false;
  keeps : g.P.Core.Table.keeps l.fn.core l.core;
}

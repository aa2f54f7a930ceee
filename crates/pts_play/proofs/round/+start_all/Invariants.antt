use Rattle.std.proofs.Common.{length, ℕ, List, IfOk, OnOk, false, ◌≡◌, ◌≤◌, ◌<◌, ◌+◌, ◌++◌, ◌∷◌, [], None, Some, ◌-◌, ◌*◌}
use Rattle.pts_play.specs.Rounds.{OrderFrom}
use Rattle.pts_play.specs.Turns.{TurnAt, AllRest, AllFit, RunSoFar, Turned, Promises, RisesFrom, is_waiting_at, AllFresh, StartedAll}
use Rattle.pts_play.proofs.round.+start_all.Given as goal

abbrev pub decreases-start_all : goal.decreases-start_all
decreases-start_all g l = length l.seats.now

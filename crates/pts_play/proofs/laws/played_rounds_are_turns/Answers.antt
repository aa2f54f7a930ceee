use Rattle.pts_play.proofs.PlayedByTurns.{played_is_turns, turns_is_played}
use Rattle.pts_play.proofs.laws.played_rounds_are_turns.Goals as goal

pub returns-clause-turns : goal.returns-clause-turns
returns-clause-turns g c w p q numbers out round = played_is_turns (g.R.Rounds.local w) (g.R.Rounds.resumes w) g.R.Rounds.steps g.R.Rounds.chosen p q numbers out round

pub returns-clause-rounds : goal.returns-clause-rounds
returns-clause-rounds g c w p q numbers out round = turns_is_played (g.R.Rounds.local w) (g.R.Rounds.resumes w) g.R.Rounds.steps g.R.Rounds.chosen p q numbers out round

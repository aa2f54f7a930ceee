use Rattle.pts_reduce.proofs.step.+step.Given as goal

abbrev pub decreases-step : goal.decreases-step
decreases-step l = l.term

use Rattle.pts_grow.proofs.build.+lift.Given as goal

abbrev pub decreases-lift : goal.decreases-lift
decreases-lift l = l.term

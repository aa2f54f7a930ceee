use Rattle.pts_grow.proofs.build.+put.Given as goal

abbrev pub decreases-put : goal.decreases-put
decreases-put l = l.body

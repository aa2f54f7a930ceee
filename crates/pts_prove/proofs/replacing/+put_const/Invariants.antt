use Rattle.pts_prove.proofs.replacing.+put_const.Given as goal

abbrev pub decreases-put_const : goal.decreases-put_const
decreases-put_const l = l.term

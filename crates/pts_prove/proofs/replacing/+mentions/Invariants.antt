use Rattle.pts_prove.proofs.replacing.+mentions.Given as goal

abbrev pub decreases-mentions : goal.decreases-mentions
decreases-mentions l = l.term

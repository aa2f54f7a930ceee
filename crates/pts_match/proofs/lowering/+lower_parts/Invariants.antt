use Rattle.pts_match.proofs.lowering.+lower_parts.Given as goal

abbrev pub decreases-lower_parts : goal.decreases-lower_parts
decreases-lower_parts l = l.term

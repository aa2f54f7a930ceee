use Rattle.pts_match.proofs.matching.+match_under.Given as goal

abbrev pub decreases-match_under : goal.decreases-match_under
decreases-match_under l = l.pattern

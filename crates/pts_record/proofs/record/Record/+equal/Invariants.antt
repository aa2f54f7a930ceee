use Rattle.pts_record.proofs.record.Record.+equal.Given as goal

abbrev pub decreases-equal : goal.decreases-equal
decreases-equal l = l.left

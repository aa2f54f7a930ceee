use Rattle.pts_record.proofs.record.Record.+is_put.Given as goal

abbrev pub decreases-is_put : goal.decreases-is_put
decreases-is_put l = l.body

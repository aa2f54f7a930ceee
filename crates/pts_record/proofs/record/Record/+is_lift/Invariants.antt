use Rattle.pts_record.proofs.record.Record.+is_lift.Given as goal

abbrev pub decreases-is_lift : goal.decreases-is_lift
decreases-is_lift l = l.other

use Rattle.pts_record.proofs.Grow.{kept_new}
use Rattle.pts_record.proofs.record.Record.new.Goals as goal

pub invariant_of-result : goal.invariant_of-result
invariant_of-result c = kept_new _ _ _ _ c.new.ensures.items c.new-2.ensures.items c.new-3.ensures.items c.new-4.ensures.items

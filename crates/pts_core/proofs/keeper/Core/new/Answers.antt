use Rattle.pts_core.proofs.Histories.{legal_new}
use Rattle.pts_core.proofs.keeper.Core.new.Goals as goal

pub invariant_of-result : goal.invariant_of-result
invariant_of-result c = legal_new c.args.system c.new.result.entries c.new.result.labels c.new-2.result.items c.new.ensures.entries c.new.ensures.labels c.new-2.ensures.items

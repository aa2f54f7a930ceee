use Rattle.pts_rules.specs.Meter.{left}
use Rattle.pts_reduce.specs.Given.{Later}
use Rattle.pts_reduce.specs.Chain.{Walk}
use Rattle.pts_reduce.proofs.chain.reduce.Given as goal

abbrev pub invariant-walk : goal.invariant-walk
invariant-walk l = Walk l.front.entries l.fn.proof l.ctx l.term (left l.fn.meter) l.proof l.form l.steps.items (left l.meter) × Later l.fn.meter l.meter

abbrev pub decreases-walk : goal.decreases-walk
decreases-walk l = left l.meter

use Rattle.std.proofs.Common.{refl}
use Rattle.pts_rules.specs.Meter.{left}
use Rattle.pts_reduce_cost.proofs.Steps.{made_as}
use Rattle.pts_reduce.proofs.step.contract.Goals as goal

pub returns-clause-runs : goal.returns-clause-runs
returns-clause-runs c = made_as _ _ _ (left c.args.meter.now) (left c.pay.new.meter) refl c.in_ok-pay.ensures.paid c.in_ok-made.ensures.term.1 c.in_ok-made.ensures.within

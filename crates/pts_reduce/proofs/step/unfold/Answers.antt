use Rattle.std.proofs.Common.{ap, sym, ◌∙◌}
use Rattle.std.specs.Option.{option_map}
use Rattle.pts_terms.specs.Seen.{named}
use Rattle.pts_rules.specs.Meter.{left}
use Rattle.pts_rules.specs.Step.{body_of}
use Rattle.pts_reduce_cost.proofs.Steps.{made_as}
use Rattle.pts_reduce.proofs.step.unfold.Goals as goal

pub returns-clause-runs : goal.returns-clause-runs
returns-clause-runs c = made_as _ _ _ (left c.args.meter.now) (left c.pay.new.meter) (ap body_of (sym c.in-Some.ensures.entry) ∙ ap (option_map named) c.in-Some-body.is) c.in_ok-pay.ensures.paid c.in_ok-made.ensures.term.1 c.in_ok-made.ensures.within

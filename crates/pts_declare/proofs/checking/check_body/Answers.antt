use Rattle.pts_terms.specs.Seen.{named}
use Rattle.pts_rules.specs.Meter.{left}
use Rattle.pts_check.specs.Entered.{declared}
use Rattle.pts_declare.proofs.Inferred.{body_within}
use Rattle.pts_declare.proofs.checking.check_body.Goals as goal

pub returns-in-Ok-clause-declared : goal.returns-in-Ok-clause-declared
returns-in-Ok-clause-declared c =
    body_within c.args.system.now c.args.front.now.entries c.args.name (named c.args.body) (named c.in-Ok.typed.ty) (declared c.finished.result) (left c.args.meter.now) (left c.infer_term.new.meter) c.finished.ensures.entry c.in-Ok.ensures.typed

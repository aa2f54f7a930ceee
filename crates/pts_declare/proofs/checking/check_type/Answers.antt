use Rattle.pts_terms.specs.Seen.{named}
use Rattle.pts_rules.specs.Meter.{left}
use Rattle.pts_check.specs.Entered.{declared}
use Rattle.pts_declare.proofs.Inferred.{type_within}
use Rattle.pts_declare.proofs.checking.check_type.Goals as goal

pub returns-in-Ok-clause-declared : goal.returns-in-Ok-clause-declared
returns-in-Ok-clause-declared c =
    let h = c.in-Ok.ensures.sorted in
    type_within c.args.system.now c.args.front.now.entries c.args.name (named c.args.ty) (declared c.finished.result) h.0 (left c.args.meter.now) (left c.infer_type.new.meter) c.finished.ensures.entry h.1

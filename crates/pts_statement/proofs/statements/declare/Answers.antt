use Rattle.pts_rules.specs.Meter.{left}
use Rattle.pts_declare.specs.Stated.{stated_of}
use Rattle.pts_statement.proofs.Stating.{declared_by}
use Rattle.pts_statement.proofs.statements.declare.Goals as goal

pub returns-in_ok-check-in-Ok-clause-declared : goal.returns-in_ok-check-in-Ok-clause-declared
returns-in_ok-check-in-Ok-clause-declared c =
    declared_by c.args.system.now c.args.label.now c.args.front.now.entries c.args.name.now (stated_of c.args.given) (left c.args.meter.now) (left c.check.new.meter) c.in-Ok.name c.in-Ok.ensures.name c.in-Ok.ensures.free c.in_ok-check-in-Ok.field-0 c.in_ok-check-in-Ok.ensures.declared

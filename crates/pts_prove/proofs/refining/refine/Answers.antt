use Rattle.pts_rules.specs.Meter.{left}
use Rattle.pts_prove.specs.Refining.{command_of}
use Rattle.pts_prove.proofs.Lending.{proves_nothing, proves_refused, proves_put}
use Rattle.pts_prove.proofs.refining.refine.Goals as goal

pub returns-in_err-goal-clause-proves : goal.returns-in_err-goal-clause-proves
returns-in_err-goal-clause-proves c =
    let R = command_of c.args.system.now c.args.front.now.entries c.args.command in
    proves_nothing c.args.proof.now R c.requires.here _ c.from_residual.result (left c.args.meter.now) c.from_residual.ensures c.in_err-goal.ensures.none

pub returns-in_err-step-clause-proves : goal.returns-in_err-step-clause-proves
returns-in_err-step-clause-proves c =
    let R = command_of c.args.system.now c.args.front.now.entries c.args.command in
    let g = c.in_ok-goal.ensures in
    let s = c.in_err-step.ensures in
    proves_refused c.args.proof.now c.step_first.new.proof R c.in_ok-goal.goal g.goal g.is_goal s.keeps s.same _ c.from_residual-in_err-step.result (left c.args.meter.now) (left c.step_first.new.meter) c.from_residual-in_err-step.ensures s.outcome

pub returns-clause-proves : goal.returns-clause-proves
returns-clause-proves c =
    let R = command_of c.args.system.now c.args.front.now.entries c.args.command in
    let g = c.in_ok-goal.ensures in
    let s = c.in_ok-step.ensures in
    proves_put c.args.proof.now c.step_first.new.proof R c.in_ok-goal.goal g.goal g.is_goal s.keeps s.same c.in_ok-step.step (left c.args.meter.now) (left c.step_first.new.meter) s.outcome c.put.new.proof c.put.result c.put.ensures.put

use Rattle.std.proofs.Common.{ap, subst}
use Rattle.pts_lines.specs.declared.line.Line.TheVariants as line
use Rattle.pts_play.specs.Machines.{done}
use Rattle.pts_session.specs.Lines.{Does}
use Rattle.pts_session.specs.Seen.{state_of}
use Rattle.pts_session.proofs.Doing.{budget_as}
use Rattle.pts_session.proofs.session.Session.set_budget.Goals as goal

pub returns-clause-line : goal.returns-clause-line
returns-clause-line c =
    let v = c.self.inside in
    subst (λ u. Does c.args.world.now.system u (line.Budget c.args.units) (done c.in_ok-lines.lines.items (state_of v.draft c.args.units))) (ap (λ w. w.state) c.self.view_is)
    (budget_as c.args.world.now.system v.draft v.budget c.args.units c.in_ok-lines.lines.items c.in_ok-count_line.field-0 c.in_ok-lines.ensures c.in_ok-count_line.ensures)

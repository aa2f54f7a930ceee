use Rattle.std.proofs.Common.{sym, subst}
use Rattle.pts_lines.specs.declared.line.Line.TheVariants as line
use Rattle.pts_session.specs.declared.request.Request.TheVariants as request
use Rattle.pts_session.specs.Lines.{Does, looks}
use Rattle.pts_session.specs.Seen.{came_to}
use Rattle.pts_session.proofs.Doing.{asks_as}
use Rattle.pts_session.proofs.session.Session.does.Goals as goal

pub returns-in-Look-clause-line : goal.returns-in-Look-clause-line
returns-in-Look-clause-line c =
    let S = c.args.world.now.system in
    let s = c.args.self.now.state in
    subst (λ l. Does S s l (came_to c.ask.result c.ask.new.self.state)) (sym c.in-Look.is)
    (asks_as S s c.ask.new.self.state line.Look c.ask.result request.Look c.ask.ensures.asks c.ask.ensures.state looks)

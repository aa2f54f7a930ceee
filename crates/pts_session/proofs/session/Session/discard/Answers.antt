use Rattle.std.proofs.Common.{ap, subst}
use Rattle.pts_lines.specs.declared.line.Line.TheVariants as line
use Rattle.pts_play.specs.Machines.{done}
use Rattle.pts_session.specs.Lines.{Does}
use Rattle.pts_session.specs.Seen.{state_of}
use Rattle.pts_session.proofs.Doing.{discards_as}
use Rattle.pts_session.proofs.session.Session.discard.Goals as goal

pub returns-clause-line : goal.returns-clause-line
returns-clause-line c =
    let v = c.self.inside in
    subst (λ u. Does c.args.world.now.system u line.Discard (done c.in_ok-lines.lines.items (state_of c.discard.new.self v.budget))) (ap (λ w. w.state) c.self.view_is)
    (discards_as c.args.world.now.system v.draft c.discard.new.self v.budget c.len-count.result c.in_ok-lines.lines.items c.in_ok-count_line.field-0
    c.in_ok-lines.ensures c.in_ok-count_line.ensures c.len-count.ensures c.discard.ensures.declarations c.discard.ensures.entries c.discard.ensures.labels)

use Rattle.std.proofs.Common.{ap, subst}
use Rattle.pts_lines.specs.declared.line.Line.TheVariants as line
use Rattle.pts_play.specs.Machines.{done}
use Rattle.pts_session.specs.Lines.{Does, renames}
use Rattle.pts_session.specs.Seen.{state_of}
use Rattle.pts_session.proofs.Plain.{plain_not_inner}
use Rattle.pts_session.proofs.Renamed.{renames_none_inner}
use Rattle.pts_session.proofs.session.Session.rename.Goals as goal

pub invariant_of-self-2 : goal.invariant_of-self-2
invariant_of-self-2 c =
    let v = c.self.inside in
    renames_none_inner (state_of v.draft v.budget) (state_of c.rename.new.draft v.budget) c.args.old.now c.args.new.now c.in_ok-lines.lines.items (c.in_ok-lines.ensures.renames v.budget)
    (plain_not_inner c.args.new.now c.requires.plain) c.self.invariant

pub returns-clause-line : goal.returns-clause-line
returns-clause-line c =
    let v = c.self.inside in
    subst (λ u. Does c.args.world.now.system u (line.Rename c.args.old.now c.args.new.now) (done c.in_ok-lines.lines.items (state_of c.rename.new.draft v.budget))) (ap (λ w. w.state) c.self.view_is)
    (renames (c.in_ok-lines.ensures.renames v.budget))

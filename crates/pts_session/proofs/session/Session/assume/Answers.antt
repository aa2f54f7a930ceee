use Rattle.std.proofs.Common.{ap, subst}
use Rattle.pts_lines.specs.declared.line.Line.TheVariants as line
use Rattle.pts_play.specs.Machines.{done}
use Rattle.pts_session.specs.Lines.{Does, assumes_type}
use Rattle.pts_session.specs.Seen.{state_of}
use Rattle.pts_session.proofs.Plain.{plain_not_inner}
use Rattle.pts_session.proofs.Inner.{declares_none_inner}
use Rattle.pts_session.proofs.session.Session.assume.Goals as goal

pub invariant_of-self-2 : goal.invariant_of-self-2
invariant_of-self-2 c =
    let v = c.self.inside in
    declares_none_inner c.args.world.now.system (state_of v.draft v.budget) (state_of c.assume.new.draft v.budget) _ c.in_ok-lines.lines.items c.in_ok-lines.ensures.declares
    (plain_not_inner c.args.name.now c.requires.plain) c.self.invariant

pub returns-clause-line : goal.returns-clause-line
returns-clause-line c =
    let v = c.self.inside in
    subst (λ u. Does c.args.world.now.system u (line.Assume c.args.name.now c.args.ty.now) (done c.in_ok-lines.lines.items (state_of c.assume.new.draft v.budget))) (ap (λ w. w.state) c.self.view_is)
    (assumes_type c.in_ok-lines.ensures.declares)

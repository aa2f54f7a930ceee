use Rattle.std.proofs.Common.{ap, ◌∙◌, subst}
use Rattle.pts_lines.specs.declared.line.Line.TheVariants as line
use Rattle.pts_session.specs.declared.request.Request.TheVariants as request
use Rattle.pts_session.specs.State.{OffersDraft}
use Rattle.pts_session.specs.Lines.{commits}
use Rattle.pts_session.specs.Seen.{state_of}
use Rattle.pts_session.proofs.Doing.{asks_as, offers_is}
use Rattle.pts_session.proofs.session.Session.commit.Goals as goal

pub returns-clause-line : goal.returns-clause-line
returns-clause-line c =
    let v = c.self.inside in
    let x = c.in_ok-examined.examined in
    let S = c.args.world.now.system in
    let e = c.in_ok-examined.ensures in
    let o = offers_is S v.draft v.budget x (ap (λ w. w.system) c.self.view_is ∙ c.requires.free.system) e.system e.entries e.labels e.declarations e.label e.sound in
    asks_as S c.args.self.now.state c.ask.new.self.state line.Commit c.ask.result (request.Submit x) c.ask.ensures.asks
    (c.ask.ensures.state ∙ (ap (λ d. state_of d v.budget) c.examined.ensures.same ∙ ap (λ w. w.state) c.self.view_is))
    (commits (subst (λ u. OffersDraft S u x) (ap (λ w. w.state) c.self.view_is) o))

use Rattle.pts_session.proofs.Doing.{drafts_as}
use Rattle.pts_session.proofs.session.Session.answer.Goals as goal

pub returns-in-Draft : goal.returns-in-Draft
returns-in-Draft c = drafts_as (λ v. v.items) c.args.world.now.system c.args.self.now.state c.args.line.now c.draft_lines.result c.in-Draft.is c.draft_lines.ensures

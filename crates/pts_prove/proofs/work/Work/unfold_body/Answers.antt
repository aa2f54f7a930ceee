use Rattle.std.proofs.Common.{sym, ◌∙◌}
use Rattle.pts_terms.specs.Seen.{named}
use Rattle.pts_prove.proofs.BodyPut.{absent_refused}
use Rattle.pts_prove.proofs.work.Work.unfold_body.Goals as goal

pub returns-clause-came : goal.returns-clause-came
returns-clause-came c = absent_refused c.args.goal c.args.name.now (named c.args.body.now) _ (sym c.mentions.ensures ∙ c.if-mentions.false) (c.refuse_not_there.ensures c.args.self.now.names.now)

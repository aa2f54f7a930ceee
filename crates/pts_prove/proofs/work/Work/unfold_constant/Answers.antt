use Rattle.pts_prove.proofs.BodyPut.{unknown_refused}
use Rattle.pts_prove.proofs.work.Work.unfold_constant.Goals as goal

pub returns-in-None-clause-came : goal.returns-in-None-clause-came
returns-in-None-clause-came c = unknown_refused c.args.goal c.args.name.now _ c.in-None.ensures.entry (c.refuse_not_there.ensures c.args.self.now.names.now)

use Rattle.pts_prove.proofs.BodyPut.{hypothesis_refused}
use Rattle.pts_prove.proofs.work.Work.unfolded.Goals as goal

pub returns-in-Some-clause-came : goal.returns-in-Some-clause-came
returns-in-Some-clause-came c = hypothesis_refused c.args.goal c.args.name.now _ _ _ c.in-Some.ensures (c.refuse_no_body.ensures c.args.self.now.names.now)

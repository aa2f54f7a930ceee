use Rattle.pts_prove.proofs.Searches.{reduced_value, reduced_fault}
use Rattle.pts_prove.proofs.work.Work.reduce.Goals as goal

pub returns-in-Ok-clause-came : goal.returns-in-Ok-clause-came
returns-in-Ok-clause-came c = reduced_value c.args.ctx c.args.term c.in-Ok.ensures.outcome

pub returns-in-Err-clause-came : goal.returns-in-Err-clause-came
returns-in-Err-clause-came c = reduced_fault c.args.ctx c.args.term _ c.of_reduction.ensures c.in-Err.ensures.refused

use Rattle.pts_prove.proofs.Openings.{form_value, form_fault}
use Rattle.pts_prove.proofs.work.Work.form_of.Goals as goal

pub returns-in-Ok-clause-came : goal.returns-in-Ok-clause-came
returns-in-Ok-clause-came c = form_value c.args.goal c.in-Ok.ensures.outcome

pub returns-in-Err-clause-came : goal.returns-in-Err-clause-came
returns-in-Err-clause-came c = form_fault c.args.goal _ c.of_reduction.ensures c.in-Err.ensures.refused

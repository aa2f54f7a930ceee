use Rattle.std.proofs.Common.{refl}
use Rattle.pts_prove.proofs.Stages.{fitted_value, fitted_fault, is_fitted}
use Rattle.pts_prove.proofs.work.Work.fit.Goals as goal

pub returns-in-Ok-clause-came : goal.returns-in-Ok-clause-came
returns-in-Ok-clause-came c = fitted_value c.args.part c.args.want c.requires.judged c.in-Ok.ensures.judged.0

pub returns-in-Ok-clause-fitted : goal.returns-in-Ok-clause-fitted
returns-in-Ok-clause-fitted c = is_fitted c.requires.judged c.in-Ok.ensures.keeps c.requires.want c.in-Ok.ensures.judged.1

pub returns-in-Err-clause-came : goal.returns-in-Err-clause-came
returns-in-Err-clause-came c = fitted_fault c.args.part c.args.want _ refl c.misfit_put_in.ensures c.requires.judged c.in-Err.ensures.refused

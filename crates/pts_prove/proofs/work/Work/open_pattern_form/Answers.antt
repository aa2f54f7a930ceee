use Rattle.pts_prove.proofs.Searches.{pattern_unreduced, pattern_reduced}
use Rattle.pts_prove.proofs.work.Work.open_pattern_form.Goals as goal

pub returns-in_err-form-clause-came : goal.returns-in_err-form-clause-came
returns-in_err-form-clause-came c = pattern_unreduced c.args.at c.from_residual.ensures c.in_err-form.ensures.came

pub returns-clause-came : goal.returns-clause-came
returns-clause-came c = pattern_reduced c.args.at c.in_ok-form.ensures.came c.form_matches.ensures.came

use Rattle.pts_prove.proofs.Openings.{form_stops, form_goes_on}
use Rattle.pts_prove.proofs.work.Work.open_form.Goals as goal

pub returns-in_err-form-clause-came : goal.returns-in_err-form-clause-came
returns-in_err-form-clause-came c = form_stops c.args.goal c.from_residual.ensures c.in_err-form.ensures.came

pub returns-clause-came : goal.returns-clause-came
returns-clause-came c = form_goes_on c.args.goal c.in_ok-form.ensures.came c.form_opens.ensures.came

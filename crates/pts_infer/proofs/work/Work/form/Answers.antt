use Rattle.pts_infer.proofs.Forms.{form_is, form_stopped}
use Rattle.pts_infer.proofs.work.Work.form.Goals as goal

pub whnf-requires-clause-ctx : goal.whnf-requires-clause-ctx
whnf-requires-clause-ctx c = c.requires.at.there

pub whnf-requires-clause-context : goal.whnf-requires-clause-context
whnf-requires-clause-context c = c.requires.at.typed.0

pub whnf-requires-clause-term : goal.whnf-requires-clause-term
whnf-requires-clause-term c = c.requires.term.there

pub returns-in_err-form-clause-stopped : goal.returns-in_err-form-clause-stopped
returns-in_err-form-clause-stopped c = form_stopped _ _ _ _ _ _ _ c.from_residual.ensures.0 c.from_residual.ensures.1 c.in_err-form.ensures.refused

pub returns-clause-form : goal.returns-clause-form
returns-clause-form c = form_is _ _ _ _ _ _ c.in_ok-form.ensures.outcome

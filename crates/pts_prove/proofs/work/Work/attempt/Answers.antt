use Rattle.pts_prove.proofs.Running.{no_memory}
use Rattle.pts_prove.proofs.Searches.{attempt_unpaid, attempt_comes, found_at}
use Rattle.pts_prove.proofs.work.Work.attempt.Goals as goal

pub returns-in_err-pay-clause-came : goal.returns-in_err-pay-clause-came
returns-in_err-pay-clause-came c = attempt_unpaid c.args.at c.args.statement c.from_residual.ensures c.in_err-pay.ensures.unpaid

pub returns-in_err-found-clause-came : goal.returns-in_err-found-clause-came
returns-in_err-found-clause-came c = no_memory c.from_residual-in_err-found.ensures

pub returns-clause-came : goal.returns-clause-came
returns-clause-came c = attempt_comes c.args.at c.args.statement c.in_ok-found.found c.in_ok-pay.ensures.grown c.requires.at.ty c.requires.statement c.in_ok-pay.ensures.paid c.in_ok-found.ensures.outcome

pub returns-clause-found : goal.returns-clause-found
returns-clause-found c = found_at _ c.args.at c.args.statement c.in_ok-found.found c.in_ok-found.ensures.outcome c.in_ok-found.ensures.found

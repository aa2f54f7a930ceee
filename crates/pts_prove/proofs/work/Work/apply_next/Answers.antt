use Rattle.std.proofs.Common.{refl}
use Rattle.pts_prove.proofs.OneArgument.{next_closed, next_refused, next_comes, function_later, is_next}
use Rattle.pts_prove.proofs.work.Work.apply_next.Goals as goal

pub returns-in_err-function-clause-came : goal.returns-in_err-function-clause-came
returns-in_err-function-clause-came c = next_closed c.args.ctx c.args.ty c.args.number c.args.part c.from_residual.ensures c.in_err-function.ensures.came

pub returns-in_err-applied-clause-came : goal.returns-in_err-applied-clause-came
returns-in_err-applied-clause-came c =
    let f = c.in_ok-function.ensures in
    next_refused c.args.ctx c.args.ty c.args.number c.args.part c.requires.place c.requires.part f.grown f.came c.from_residual-in_err-applied.ensures c.in_err-applied.ensures.came

pub returns-clause-came : goal.returns-clause-came
returns-clause-came c =
    let f = c.in_ok-function.ensures in
    next_comes c.args.ctx c.args.ty c.args.number c.args.part c.requires.place c.requires.part f.grown f.came refl refl c.in_ok-applied.ensures.came

pub returns-clause-next : goal.returns-clause-next
returns-clause-next c =
    let f = c.in_ok-function.ensures in
    let a = c.in_ok-applied.ensures in
    is_next (function_later a.grown f.function) a.applied

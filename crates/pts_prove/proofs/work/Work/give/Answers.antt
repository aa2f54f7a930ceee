use Rattle.std.proofs.Common.{◌∙◌}
use Rattle.pts_prove.proofs.Working.{grown_trans, fitted_later}
use Rattle.pts_prove.proofs.OneArgument.{give_uninferred, give_unfitted, give_large, give_comes, is_given}
use Rattle.pts_prove.proofs.work.Work.give.Goals as goal

pub returns-in_err-judged-clause-came : goal.returns-in_err-judged-clause-came
returns-in_err-judged-clause-came c = give_uninferred c.args.ctx c.args.argument c.requires.place c.requires.product c.requires.argument c.from_residual.ensures c.in_err-judged.ensures.came

pub returns-in_err-fitted-clause-came : goal.returns-in_err-fitted-clause-came
returns-in_err-fitted-clause-came c =
    let j = c.in_ok-judged.ensures in
    give_unfitted c.args.ctx c.args.argument c.requires.place c.requires.product c.requires.argument j.grown j.came c.from_residual-in_err-fitted.ensures c.in_err-fitted.ensures.came

pub returns-in_err-after-clause-came : goal.returns-in_err-after-clause-came
returns-in_err-after-clause-came c =
    let j = c.in_ok-judged.ensures in
    let f = c.in_ok-fitted.ensures in
    give_large c.args.ctx c.args.argument c.requires.place c.requires.product c.requires.argument j.grown j.came f.grown f.came c.from_residual-in_err-after.ensures c.in_err-after.ensures.came

pub returns-clause-came : goal.returns-clause-came
returns-clause-came c =
    let j = c.in_ok-judged.ensures in
    let f = c.in_ok-fitted.ensures in
    let t = c.in_ok-after.ensures in
    give_comes c.args.ctx c.args.argument c.requires.place c.requires.product c.requires.argument j.grown j.came f.grown f.came t.grown (f.fitted.judged.subject ∙ j.judged.subject) t.came

pub returns-clause-applied : goal.returns-clause-applied
returns-clause-applied c =
    let j = c.in_ok-judged.ensures in
    let f = c.in_ok-fitted.ensures in
    let t = c.in_ok-after.ensures in
    is_given (grown_trans j.grown f.grown) t.grown c.requires.product c.requires.argument j.judged.subject (fitted_later t.grown f.fitted) t.term

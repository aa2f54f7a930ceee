use Rattle.pts_prove.proofs.BodyPut.{unfold_refused, unfold_goes_on}
use Rattle.pts_prove.proofs.work.Work.unfold.Goals as goal

pub returns-in_err-new-clause-came : goal.returns-in_err-new-clause-came
returns-in_err-new-clause-came c = unfold_refused c.args.name.now c.requires.goal c.from_residual.ensures c.in_err-new.ensures.came

pub returns-clause-came : goal.returns-clause-came
returns-clause-came c =
    let n = c.in_ok-new.ensures in
    unfold_goes_on c.args.name.now c.requires.goal n.grown n.came c.change.ensures.came

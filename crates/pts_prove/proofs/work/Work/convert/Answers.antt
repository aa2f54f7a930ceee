use Rattle.pts_terms.specs.Seen.{named}
use Rattle.pts_prove.proofs.Running.{stops}
use Rattle.pts_prove.proofs.OtherStatement.{convert_goes_on}
use Rattle.pts_prove.proofs.work.Work.convert.Goals as goal

pub returns-in_err-new-clause-came : goal.returns-in_err-new-clause-came
returns-in_err-new-clause-came c = stops _ c.from_residual.ensures c.in_err-new.ensures.came

pub returns-clause-came : goal.returns-clause-came
returns-clause-came c =
    let t = c.in_ok-new.ensures in
    convert_goes_on (named c.args.term.now) c.requires.goal t.grown t.came c.change.ensures.came

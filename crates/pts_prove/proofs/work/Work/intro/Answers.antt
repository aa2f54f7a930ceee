use Rattle.pts_prove.proofs.NewVariable.{taken_first, intro_closed, intro_unsorted, intro_comes, intro_fits}
use Rattle.pts_prove.proofs.Openings.{opening_later}
use Rattle.pts_prove.proofs.work.Work.intro.Goals as goal

pub returns-in_err-check_fresh-clause-came : goal.returns-in_err-check_fresh-clause-came
returns-in_err-check_fresh-clause-came c = taken_first _ c.args.name.now _ _ c.from_residual.ensures c.in_err-check_fresh.ensures.taken

pub returns-in_err-opening-clause-came : goal.returns-in_err-opening-clause-came
returns-in_err-opening-clause-came c = intro_closed c.args.name.now c.in_ok-check_fresh.ensures.fresh c.requires.goal c.from_residual-in_err-opening.ensures c.in_err-opening.ensures.came

pub returns-in_err-parts-clause-came : goal.returns-in_err-parts-clause-came
returns-in_err-parts-clause-came c =
    let o = c.in_ok-opening.ensures in
    intro_unsorted c.args.name.now c.in_ok-check_fresh.ensures.fresh c.requires.goal o.grown o.came c.from_residual-in_err-parts.ensures c.in_err-parts.ensures.came

pub returns-clause-came : goal.returns-clause-came
returns-clause-came c =
    let o = c.in_ok-opening.ensures in
    let f = c.in_ok-parts.ensures in
    intro_comes c.args.name.now c.in_ok-check_fresh.ensures.fresh c.requires.goal o.grown o.came c.in_ok-copy.ensures f.came

pub returns-clause-fits : goal.returns-clause-fits
returns-clause-fits c =
    let o = c.in_ok-opening.ensures in
    let f = c.in_ok-parts.ensures in
    intro_fits _ (opening_later f.grown o.opening) f.formed

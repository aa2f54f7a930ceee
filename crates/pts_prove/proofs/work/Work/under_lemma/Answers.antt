use Rattle.pts_prove.proofs.Running.{no_memory}
use Rattle.pts_prove.proofs.LemmaFirst.{under_stops, under_comes, under_later, are_parts}
use Rattle.pts_prove.proofs.work.Work.under_lemma.Goals as goal

pub returns-in_err-under-clause-came : goal.returns-in_err-under-clause-came
returns-in_err-under-clause-came c = no_memory c.from_residual.ensures

pub returns-in_err-body-clause-came : goal.returns-in_err-body-clause-came
returns-in_err-body-clause-came c =
    let u = c.in_ok-under.ensures in
    under_stops c.args.name.now u.meter u.grown c.requires.goal c.requires.lemma u.under c.from_residual-in_err-body.ensures c.in_err-body.ensures.came

pub returns-clause-came : goal.returns-clause-came
returns-clause-came c =
    let u = c.in_ok-under.ensures in
    under_comes c.args.name.now u.meter u.grown c.requires.goal c.requires.lemma u.under c.in_ok-body.ensures.came

pub returns-clause-parts : goal.returns-clause-parts
returns-clause-parts c =
    let b = c.in_ok-body.ensures in
    are_parts (under_later b.grown c.in_ok-under.ensures.under) b.sorted

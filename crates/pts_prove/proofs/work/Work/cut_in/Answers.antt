use Rattle.pts_prove.proofs.LemmaFirst.{cut_unruled, cut_large, cut_comes, cut_fits, parts_later}
use Rattle.pts_prove.proofs.Working.{grown_trans}
use Rattle.pts_prove.proofs.work.Work.cut_in.Goals as goal

pub returns-in_err-sort-clause-came : goal.returns-in_err-sort-clause-came
returns-in_err-sort-clause-came c = cut_unruled c.args.name.now c.requires.parts c.from_residual.ensures c.in_err-sort.ensures.came

pub returns-in_err-line-clause-came : goal.returns-in_err-line-clause-came
returns-in_err-line-clause-came c = cut_large c.args.name.now c.requires.parts c.in_ok-sort.ensures.came c.from_residual-in_err-line.ensures c.in_err-line.ensures.came

pub returns-clause-came : goal.returns-clause-came
returns-clause-came c =
    let l = c.in_ok-line.ensures in
    let p = c.in_ok-product.ensures in
    cut_comes c.args.name.now c.requires.parts c.in_ok-sort.ensures.came l.grown p.grown p.meter c.in_ok-copy.ensures l.came

pub returns-clause-fits : goal.returns-clause-fits
returns-clause-fits c = cut_fits _ c.in_ok-product.ensures.cut

pub judge_product-requires-clause-parts : goal.judge_product-requires-clause-parts
judge_product-requires-clause-parts c = parts_later c.in_ok-line.ensures.grown c.requires.parts

pub returns-in_err-copy-clause-grown : goal.returns-in_err-copy-clause-grown
returns-in_err-copy-clause-grown c = grown_trans c.in_ok-line.ensures.grown c.in_ok-product.ensures.grown

pub returns-clause-grown : goal.returns-clause-grown
returns-clause-grown c = grown_trans c.in_ok-line.ensures.grown c.in_ok-product.ensures.grown

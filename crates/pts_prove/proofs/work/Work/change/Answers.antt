use Rattle.pts_prove.proofs.OtherStatement.{change_unsorted, change_unlike, change_comes, change_fits}
use Rattle.pts_prove.proofs.Working.{term_later, sorted_later, grown_trans}
use Rattle.pts_prove.proofs.work.Work.change.Goals as goal

pub returns-in_err-sorted-clause-came : goal.returns-in_err-sorted-clause-came
returns-in_err-sorted-clause-came c = change_unsorted c.args.goal c.args.new c.args.part c.from_residual.ensures c.in_err-sorted.ensures.came

pub returns-in_err-comparison-clause-came : goal.returns-in_err-comparison-clause-came
returns-in_err-comparison-clause-came c =
    let s = c.in_ok-sorted.ensures in
    change_unlike c.args.part c.requires.goal c.requires.new s.grown s.came c.from_residual-in_err-comparison.ensures c.in_err-comparison.ensures.came

pub returns-clause-came : goal.returns-clause-came
returns-clause-came c =
    let s = c.in_ok-sorted.ensures in
    let o = c.in_ok-comparison.ensures in
    change_comes c.args.part c.requires.goal c.requires.new s.grown s.came o.compared.left o.came

pub returns-clause-fits : goal.returns-clause-fits
returns-clause-fits c =
    let s = c.in_ok-sorted.ensures in
    let o = c.in_ok-comparison.ensures in
    change_fits (term_later (grown_trans s.grown o.grown) c.requires.new) (sorted_later o.grown s.sorted) o.compared

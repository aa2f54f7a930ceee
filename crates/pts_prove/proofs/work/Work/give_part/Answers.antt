use Rattle.pts_prove.proofs.Running.{no_memory, comes_to}
use Rattle.pts_prove.proofs.LemmaFirst.{unpaid}
use Rattle.pts_prove.proofs.Applied.{product_later}
use Rattle.pts_prove.proofs.OneArgument.{giving_since}
use Rattle.pts_prove.proofs.work.Work.give_part.Goals as goal

pub returns-in_err-argument-clause-came : goal.returns-in_err-argument-clause-came
returns-in_err-argument-clause-came c = no_memory c.from_residual.ensures

pub returns-clause-came : goal.returns-clause-came
returns-clause-came c =
    let a = c.in_ok-argument.ensures in
    unpaid a.meter (comes_to (giving_since a.grown c.requires.place c.requires.product a.term) c.give.ensures.came)

pub give-requires-clause-product : goal.give-requires-clause-product
give-requires-clause-product c = product_later c.in_ok-argument.ensures.grown c.requires.product

use Rattle.pts_prove.proofs.LemmaFirst.{ruled, unruled}
use Rattle.pts_prove.proofs.work.Work.product_sort.Goals as goal

pub returns-in-Some-clause-came : goal.returns-in-Some-clause-came
returns-in-Some-clause-came c = ruled c.args.domain.0 c.args.body.0 c.in-Some.ensures.rule

pub returns-in-None-clause-came : goal.returns-in-None-clause-came
returns-in-None-clause-came c = unruled c.args.domain.0 c.args.body.0 c.in-None.ensures.rule c.refuse_unruled.ensures

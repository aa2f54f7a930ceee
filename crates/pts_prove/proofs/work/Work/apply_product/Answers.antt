use Rattle.pts_prove.proofs.OneArgument.{applied_part, applied_goal}
use Rattle.pts_prove.proofs.work.Work.apply_product.Goals as goal

pub returns-in-Some-clause-came : goal.returns-in-Some-clause-came
returns-in-Some-clause-came c = applied_part c.args.product c.args.ctx c.args.number c.args.part c.in-Some.part c.in-Some.is c.give_part.ensures.came

pub returns-in-None-clause-came : goal.returns-in-None-clause-came
returns-in-None-clause-came c = applied_goal c.args.product c.args.ctx c.args.number c.args.part c.in-None.is c.ask.ensures.came

use Rattle.std.proofs.Common.{subst}
use Rattle.pts_reduce.specs.Given.{TestFault}
use Rattle.pts_reduce.proofs.Faults.{outwards_spent, outwards_deep}
use Rattle.pts_reduce.proofs.differ.in_part.Goals as goal

pub returns-in-Spent : goal.returns-in-Spent
returns-in-Spent c = λ ss k r h. outwards_spent ss c.args.part k r (subst (λ f. TestFault ss f k r) c.in-Spent.is h)

pub returns-in-Deep : goal.returns-in-Deep
returns-in-Deep c = λ ss k r h. outwards_deep ss c.args.part k r (subst (λ f. TestFault ss f k r) c.in-Deep.is h)

use Rattle.std.proofs.Common.{refl, sym}
use Rattle.pts_prove.proofs.Openings.{opens_at_once}
use Rattle.pts_prove.proofs.work.Work.open.Goals as goal

pub returns-in-Some-clause-came : goal.returns-in-Some-clause-came
returns-in-Some-clause-came c = opens_at_once c.args.goal refl (sym c.in-Some.ensures.parts)

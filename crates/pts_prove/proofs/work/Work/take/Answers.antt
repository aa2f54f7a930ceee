use Rattle.std.proofs.Common.{refl}
use Rattle.pts_terms.specs.Seen.{named}
use Rattle.pts_prove.proofs.Stages.{taken, untaken}
use Rattle.pts_prove.proofs.work.Work.take.Goals as goal

pub returns-in-Ok-clause-came : goal.returns-in-Ok-clause-came
returns-in-Ok-clause-came c = taken refl c.in-Ok.ensures.term.1 c.in-Ok.ensures.within

pub returns-in-Err-clause-came : goal.returns-in-Err-clause-came
returns-in-Err-clause-came c = untaken _ (named c.args.term.now) refl c.of_making.ensures c.in-Err.ensures.refused

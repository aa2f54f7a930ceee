use Rattle.pts_core.specs.Cores.{labelled}
use Rattle.pts_core.proofs.Entered.{committed_is_reply}
use Rattle.pts_core.proofs.entering.answer.Goals as goal

pub returns-in-None-clause-kept : goal.returns-in-None-clause-kept
returns-in-None-clause-kept c = committed_is_reply (labelled c.args.context.now) c.args.examined c.enter.result.kept (c.first_obstacle.ensures.free c.in-None.is) c.enter.ensures.kept

use Rattle.std.proofs.Common.{refl}
use Rattle.pts_terms.specs.Seen.{named}
use Rattle.pts_rules.specs.Meter.{left as units}
use Rattle.pts_reduce_cost.specs.Costs.{beyond}
use Rattle.pts_queries.specs.Queries.{TestsTerms, tested_line}
use Rattle.pts_queries.specs.Hypotheses.{entries_in}
use Rattle.pts_queries.proofs.Replying.{fresh_left, tested_reply, stopped}
use Rattle.pts_queries.proofs.hypotheses.Under.compared.Goals as goal

pub returns-in-Ok-clause-answers : goal.returns-in-Ok-clause-answers
returns-in-Ok-clause-answers c =
    tested_reply c.args.front.now.entries (entries_in c.args.self.now) (named c.args.left.now) (named c.args.right.now) c.args.budget (units c.new-meter.result) (units c.tested.new.meter) c.in-Ok.line (fresh_left c.new-meter.result c.args.budget c.new-meter.ensures) c.in-Ok.ensures.tested

pub returns-in-Err-clause-answers : goal.returns-in-Err-clause-answers
returns-in-Err-clause-answers c =
    stopped (TestsTerms c.args.front.now.entries (entries_in c.args.self.now) (named c.args.left.now) (named c.args.right.now)) c.args.budget (units c.new-meter.result) (fresh_left c.new-meter.result c.args.budget c.new-meter.ensures) tested_line beyond c.in-Err.fault (units c.tested.new.meter) c.stopped_line.result refl c.in-Err.ensures.refused c.stopped_line.ensures.refusal c.stopped_line.ensures.line

use Rattle.std.proofs.Common.{IfErr, IfOk}
use Rattle.pts_rules.specs.Meter.{left as units}
use Rattle.pts_reduce_cost.specs.Costs.{beyond}
use Rattle.pts_reduce.specs.Answered.{Refused}
use Rattle.pts_queries.specs.Queries.{TestsTerms}
use Rattle.pts_queries.specs.Inner.{IsTested}
use Rattle.pts_queries.proofs.Growing.{context_later, grown_trans, both_before}
use Rattle.pts_queries.proofs.hypotheses.Under.tested.Goals as goal

pub tested_at-requires-clause-context : goal.tested_at-requires-clause-context
tested_at-requires-clause-context c = context_later (c.in-Ok.ensures.grown c.args.system.now c.args.front.now.entries) c.requires.context

pub tested_at-requires-clause-left : goal.tested_at-requires-clause-left
tested_at-requires-clause-left c = c.in-Ok.ensures.left.0

pub tested_at-requires-clause-right : goal.tested_at-requires-clause-right
tested_at-requires-clause-right c = c.in-Ok.ensures.right.0

pub returns-in-Ok-clause-tested : goal.returns-in-Ok-clause-tested
returns-in-Ok-clause-tested c =
    let G = c.args.front.now.entries in
    both_before (c.in-Ok.ensures.grown c.args.system.now G) c.requires.context c.in-Ok.left c.in-Ok.right (λ L t u. IfOk c.tested_at.result (λ line. IsTested (TestsTerms G L t u) (units c.args.meter.now) (units c.tested_at.new.meter) line)) c.in-Ok.ensures.left.1 c.in-Ok.ensures.right.1 c.tested_at.ensures.tested

pub returns-in-Ok-clause-refused : goal.returns-in-Ok-clause-refused
returns-in-Ok-clause-refused c =
    let G = c.args.front.now.entries in
    both_before (c.in-Ok.ensures.grown c.args.system.now G) c.requires.context c.in-Ok.left c.in-Ok.right (λ L t u. IfErr c.tested_at.result (λ e. Refused (TestsTerms G L t u) beyond e (units c.args.meter.now) (units c.tested_at.new.meter))) c.in-Ok.ensures.left.1 c.in-Ok.ensures.right.1 c.tested_at.ensures.refused

pub returns-in-Ok-clause-grown : goal.returns-in-Ok-clause-grown
returns-in-Ok-clause-grown c = grown_trans (c.in-Ok.ensures.grown c.args.system.now c.args.front.now.entries) (c.tested_at.ensures.grown c.args.system.now)

pub returns-in-Err-TooLarge-clause-grown : goal.returns-in-Err-TooLarge-clause-grown
returns-in-Err-TooLarge-clause-grown c = c.enter_both.ensures.grown c.args.system.now c.args.front.now.entries

pub returns-in-Err-Memory-clause-grown : goal.returns-in-Err-Memory-clause-grown
returns-in-Err-Memory-clause-grown c = c.enter_both.ensures.grown c.args.system.now c.args.front.now.entries

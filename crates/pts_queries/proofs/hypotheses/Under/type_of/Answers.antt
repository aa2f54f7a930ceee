use Rattle.std.proofs.Common.{IfErr, IfOk}
use Rattle.pts_terms.specs.Seen.{named}
use Rattle.pts_rules.specs.Meter.{left}
use Rattle.pts_reduce_cost.specs.Laws.{WithinBudget}
use Rattle.pts_infer_cost.specs.Typing.{comes}
use Rattle.pts_infer.specs.Answered.{Refused}
use Rattle.pts_queries.specs.Queries.{InfersTerm}
use Rattle.pts_queries.proofs.Growing.{context_later, grown_trans, seen_before}
use Rattle.pts_queries.proofs.hypotheses.Under.type_of.Goals as goal

pub type_at-requires-clause-context : goal.type_at-requires-clause-context
type_at-requires-clause-context c = context_later (c.in-Ok.ensures.grown c.args.system.now c.args.front.now.entries) c.requires.context

pub type_at-requires-clause-term : goal.type_at-requires-clause-term
type_at-requires-clause-term c = c.in-Ok.ensures.term

pub returns-in-Ok-clause-typed : goal.returns-in-Ok-clause-typed
returns-in-Ok-clause-typed c =
    let S = c.args.system.now in
    let G = c.args.front.now.entries in
    seen_before (c.in-Ok.ensures.grown S G) c.requires.context c.in-Ok.term (λ xs L t. IfOk c.type_at.result (λ A. WithinBudget (InfersTerm S G L t) (left c.args.meter.now) (comes (named A)) (left c.type_at.new.meter))) c.in-Ok.ensures.is c.type_at.ensures.typed

pub returns-in-Ok-clause-refused : goal.returns-in-Ok-clause-refused
returns-in-Ok-clause-refused c =
    let S = c.args.system.now in
    let G = c.args.front.now.entries in
    seen_before (c.in-Ok.ensures.grown S G) c.requires.context c.in-Ok.term (λ xs L t. IfErr c.type_at.result (λ e. Refused xs (InfersTerm S G L t) e (left c.args.meter.now) (left c.type_at.new.meter))) c.in-Ok.ensures.is c.type_at.ensures.refused

pub returns-in-Ok-clause-grown : goal.returns-in-Ok-clause-grown
returns-in-Ok-clause-grown c = grown_trans (c.in-Ok.ensures.grown c.args.system.now c.args.front.now.entries) c.type_at.ensures.grown

pub returns-in-Err-TooLarge-clause-grown : goal.returns-in-Err-TooLarge-clause-grown
returns-in-Err-TooLarge-clause-grown c = c.enter.ensures.grown c.args.system.now c.args.front.now.entries

pub returns-in-Err-Memory-clause-grown : goal.returns-in-Err-Memory-clause-grown
returns-in-Err-Memory-clause-grown c = c.enter.ensures.grown c.args.system.now c.args.front.now.entries

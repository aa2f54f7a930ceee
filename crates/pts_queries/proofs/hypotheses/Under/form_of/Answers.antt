use Rattle.std.proofs.Common.{IfErr, IfOk}
use Rattle.pts_terms.specs.Seen.{named}
use Rattle.pts_rules.specs.Meter.{left}
use Rattle.pts_reduce_cost.specs.Costs.{form, too_large}
use Rattle.pts_reduce_cost.specs.Laws.{WithinBudget}
use Rattle.pts_reduce.specs.Answered.{Refused}
use Rattle.pts_queries.specs.Queries.{ReducesTerm}
use Rattle.pts_queries.proofs.Growing.{context_later, grown_trans, seen_before}
use Rattle.pts_queries.proofs.hypotheses.Under.form_of.Goals as goal

pub form_at-requires-clause-context : goal.form_at-requires-clause-context
form_at-requires-clause-context c = context_later (c.in-Ok.ensures.grown c.args.system.now c.args.front.now.entries) c.requires.context

pub form_at-requires-clause-term : goal.form_at-requires-clause-term
form_at-requires-clause-term c = c.in-Ok.ensures.term

pub returns-in-Ok-clause-form : goal.returns-in-Ok-clause-form
returns-in-Ok-clause-form c =
    let G = c.args.front.now.entries in
    seen_before (c.in-Ok.ensures.grown c.args.system.now G) c.requires.context c.in-Ok.term (λ xs L t. IfOk c.form_at.result (λ v. WithinBudget (ReducesTerm G L t) (left c.args.meter.now) (form (named v)) (left c.form_at.new.meter))) c.in-Ok.ensures.is c.form_at.ensures.form

pub returns-in-Ok-clause-refused : goal.returns-in-Ok-clause-refused
returns-in-Ok-clause-refused c =
    let G = c.args.front.now.entries in
    seen_before (c.in-Ok.ensures.grown c.args.system.now G) c.requires.context c.in-Ok.term (λ xs L t. IfErr c.form_at.result (λ e. Refused (ReducesTerm G L t) too_large e (left c.args.meter.now) (left c.form_at.new.meter))) c.in-Ok.ensures.is c.form_at.ensures.refused

pub returns-in-Ok-clause-grown : goal.returns-in-Ok-clause-grown
returns-in-Ok-clause-grown c = grown_trans (c.in-Ok.ensures.grown c.args.system.now c.args.front.now.entries) (c.form_at.ensures.grown c.args.system.now)

pub returns-in-Err-TooLarge-clause-grown : goal.returns-in-Err-TooLarge-clause-grown
returns-in-Err-TooLarge-clause-grown c = c.enter.ensures.grown c.args.system.now c.args.front.now.entries

pub returns-in-Err-Memory-clause-grown : goal.returns-in-Err-Memory-clause-grown
returns-in-Err-Memory-clause-grown c = c.enter.ensures.grown c.args.system.now c.args.front.now.entries

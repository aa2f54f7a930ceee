use Rattle.std.proofs.Common.{◌∙◌, ap, refl}
use Rattle.pts_terms.specs.Seen.{named}
use Rattle.pts_rules.specs.Meter.{left}
use Rattle.pts_printed.specs.Locals.{printed}
use Rattle.pts_reduce_cost.specs.Costs.{form, too_large}
use Rattle.pts_queries.specs.Queries.{ReducesTerm, reduced_line}
use Rattle.pts_queries.specs.Hypotheses.{entries_in}
use Rattle.pts_queries.proofs.Replying.{fresh_left, replied, stopped}
use Rattle.pts_queries.proofs.hypotheses.Under.reduced.Goals as goal

pub returns-in_ok-print_term-in-Ok-clause-answers : goal.returns-in_ok-print_term-in-Ok-clause-answers
returns-in_ok-print_term-in-Ok-clause-answers c =
    let sorts = c.args.system.now.sorts in
    let v = named c.in-Ok.form in
    let text = c.of.ensures ∙ (c.in_ok-print_term-in-Ok.ensures.text ∙ ap (λ xs. printed sorts xs.now v) c.in-Ok.ensures.grown.names) in
    replied (ReducesTerm c.args.front.now.entries (entries_in c.args.self.now) (named c.args.term.now)) c.args.budget (left c.new-meter.result) (fresh_left c.new-meter.result c.args.budget c.new-meter.ensures) (reduced_line sorts c.args.self.now.names.now) (form v) (left c.form_of.new.meter) c.of.result c.in-Ok.ensures.form text

pub returns-in-Err-clause-answers : goal.returns-in-Err-clause-answers
returns-in-Err-clause-answers c =
    stopped (ReducesTerm c.args.front.now.entries (entries_in c.args.self.now) (named c.args.term.now)) c.args.budget (left c.new-meter.result) (fresh_left c.new-meter.result c.args.budget c.new-meter.ensures) (reduced_line c.args.system.now.sorts c.args.self.now.names.now) too_large c.in-Err.fault (left c.form_of.new.meter) c.stopped_line.result refl c.in-Err.ensures.refused c.stopped_line.ensures.refusal c.stopped_line.ensures.line

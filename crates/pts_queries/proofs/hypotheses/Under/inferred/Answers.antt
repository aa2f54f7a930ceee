use Rattle.std.proofs.Common.{◌≡◌, IfOk, subst}
use Rattle.pts_terms.specs.Seen.{named}
use Rattle.pts_rules.specs.Meter.{left}
use Rattle.pts_infer_cost.specs.Typing.{comes}
use Rattle.pts_queries.specs.Replies.{judgement_line}
use Rattle.pts_queries.specs.Queries.{InfersTerm, inferred_line}
use Rattle.pts_queries.specs.Hypotheses.{entries_in}
use Rattle.pts_queries.proofs.Replying.{fresh_left, answered, untyped}
use Rattle.pts_queries.proofs.hypotheses.Under.inferred.Goals as goal

pub returns-in-Ok-clause-answers : goal.returns-in-Ok-clause-answers
returns-in-Ok-clause-answers c =
    let S = c.args.system.now in
    let t = named c.args.term.now in
    let A = named c.in-Ok.ty in
    let line = subst (λ xs. IfOk c.judgement_line.result (λ line. line ≡ judgement_line S.sorts xs.now t A)) c.in-Ok.ensures.grown.names c.judgement_line.ensures in
    answered (InfersTerm S c.args.front.now.entries (entries_in c.args.self.now) t) c.args.budget (left c.new-meter.result) (fresh_left c.new-meter.result c.args.budget c.new-meter.ensures) (inferred_line S.sorts c.args.self.now.names.now t) (comes A) (left c.type_of.new.meter) c.judgement_line.result c.in-Ok.ensures.typed line

pub returns-in-Err-clause-answers : goal.returns-in-Err-clause-answers
returns-in-Err-clause-answers c =
    untyped c.args.system.now c.args.front.now.entries c.args.self.now.names.now (entries_in c.args.self.now) (named c.args.term.now) c.args.budget (left c.new-meter.result) (fresh_left c.new-meter.result c.args.budget c.new-meter.ensures) c.in-Err.fault (left c.type_of.new.meter) c.untyped_line.result c.in-Err.ensures.refused c.untyped_line.ensures.refusal c.untyped_line.ensures.line

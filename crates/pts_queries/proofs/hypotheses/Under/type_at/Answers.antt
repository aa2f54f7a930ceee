use Rattle.std.proofs.Common.{◌∙◌}
use Rattle.pts_terms.specs.Seen.{named}
use Rattle.pts_rules.specs.Meter.{left}
use Rattle.pts_queries.specs.Hypotheses.{entries_in}
use Rattle.pts_queries.specs.Inner.{term_in}
use Rattle.pts_queries.proofs.Reaching.{typed_within}
use Rattle.pts_queries.proofs.Growing.{claim_said}
use Rattle.pts_queries.proofs.hypotheses.Under.type_at.Goals as goal

pub infer-requires-clause-ctx : goal.infer-requires-clause-ctx
infer-requires-clause-ctx c = c.requires.context.there

pub infer-requires-clause-typed : goal.infer-requires-clause-typed
infer-requires-clause-typed c = c.requires.context.typed

pub infer-requires-clause-term : goal.infer-requires-clause-term
infer-requires-clause-term c = c.requires.term.there

pub returns-clause-typed : goal.returns-clause-typed
returns-clause-typed c =
    let u = c.args.self.now in
    let j = c.in_ok-node.ensures.judged in
    let claim = claim_said c.infer.new.proof c.in_ok-node.node _ _ _ _ j.0 c.judged_at.result.1 j.2 c.judged_at.ensures.judged c.judged_at.ensures.node in
    typed_within c.args.system.now c.args.front.now.entries (entries_in u) (term_in u c.args.term) (left c.args.meter.now) c.requires.term.within (left c.infer.new.meter) (named c.in_ok-tree.field-0) j.0 j.1 (c.in_ok-tree.ensures.tree ∙ claim)

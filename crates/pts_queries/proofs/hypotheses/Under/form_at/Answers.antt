use Rattle.pts_terms.specs.Seen.{named}
use Rattle.pts_record.specs.Table.{named_at}
use Rattle.pts_rules.specs.Meter.{left}
use Rattle.pts_queries.specs.Hypotheses.{entries_in}
use Rattle.pts_queries.specs.Inner.{term_in}
use Rattle.pts_queries.proofs.Reaching.{form_within}
use Rattle.pts_queries.proofs.hypotheses.Under.form_at.Goals as goal

pub whnf-requires-clause-ctx : goal.whnf-requires-clause-ctx
whnf-requires-clause-ctx c = c.requires.context.there

pub whnf-requires-clause-context : goal.whnf-requires-clause-context
whnf-requires-clause-context c = c.requires.context.typed.0

pub whnf-requires-clause-term : goal.whnf-requires-clause-term
whnf-requires-clause-term c = c.requires.term.there

pub returns-clause-form : goal.returns-clause-form
returns-clause-form c =
    let u = c.args.self.now in
    form_within c.args.front.now.entries (entries_in u) (term_in u c.args.term) (left c.args.meter.now) c.requires.term.within (left c.whnf.new.meter) (named c.in_ok-tree.field-0) (named_at c.whnf.new.proof.shapes c.in_ok-whnf.whnf.term) c.in_ok-whnf.ensures.outcome c.in_ok-tree.ensures.tree

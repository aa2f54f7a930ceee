use Rattle.std.proofs.Common.{◌∙◌, ap, subst}
use Rattle.pts_record.specs.Table.{named_at}
use Rattle.pts_rules.specs.Meter.{left as units}
use Rattle.pts_reduce.specs.Answered.{Answered}
use Rattle.pts_queries.specs.Replies.{difference_line}
use Rattle.pts_queries.specs.Hypotheses.{entries_in}
use Rattle.pts_queries.specs.Inner.{term_in}
use Rattle.pts_queries.proofs.Reaching.{tested_yes, tested_no}
use Rattle.pts_queries.proofs.hypotheses.Under.tested_at.Goals as goal

pub returns-in_ok-from_str-in-Yes-clause-tested : goal.returns-in_ok-from_str-in-Yes-clause-tested
returns-in_ok-from_str-in-Yes-clause-tested c =
    let G = c.args.front.now.entries in
    let L = entries_in c.args.self.now in
    let t = term_in c.args.self.now c.args.left in
    let u = term_in c.args.self.now c.args.right in
    let b = units c.args.meter.now in
    let k = units c.convert.new.meter in
    let a = subst (λ x. Answered G L c.convert.new.proof c.args.self.now.ctx c.args.left c.args.right t u b k x) c.in-Yes.is c.in_ok-convert.ensures.answer in
    tested_yes G L t u b c.requires.left.within c.requires.right.within k c.of.result a.0 (c.of.ensures ∙ c.in_ok-from_str-in-Yes.ensures.ok)

pub returns-in_ok-difference_line-in-No-clause-tested : goal.returns-in_ok-difference_line-in-No-clause-tested
returns-in_ok-difference_line-in-No-clause-tested c =
    let G = c.args.front.now.entries in
    let L = entries_in c.args.self.now in
    let t = term_in c.args.self.now c.args.left in
    let u = term_in c.args.self.now c.args.right in
    let b = units c.args.meter.now in
    let k = units c.convert.new.meter in
    let q = c.convert.new.proof in
    let a = subst (λ x. Answered G L q c.args.self.now.ctx c.args.left c.args.right t u b k x) c.in-No.is c.in_ok-convert.ensures.answer in
    tested_no G L t u b c.requires.left.within c.requires.right.within k c.in-No.place c.in_ok-difference_line-in-No.field-0 (named_at q.shapes c.in-No.left) (named_at q.shapes c.in-No.right) a.2 (c.in_ok-difference_line-in-No.ensures ∙ ap difference_line c.items.ensures)

pub convert-requires-clause-ctx : goal.convert-requires-clause-ctx
convert-requires-clause-ctx c = c.requires.context.there

pub convert-requires-clause-context : goal.convert-requires-clause-context
convert-requires-clause-context c = c.requires.context.typed.0

pub convert-requires-clause-left : goal.convert-requires-clause-left
convert-requires-clause-left c = c.requires.left.there

pub convert-requires-clause-right : goal.convert-requires-clause-right
convert-requires-clause-right c = c.requires.right.there

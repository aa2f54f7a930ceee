use Rattle.std.proofs.Common.{◌+◌, ◌∙◌, ap, subst, ◌<◌, length, arith}
use Rattle.pts_match.specs.Lowering.{lower}
use Rattle.pts_record.specs.Table.{named_at, named_trees, unfold_shape, the_name, AllBelow, shape_links}
use Rattle.pts_grow.proofs.Grow.{keeps_trans, tree_stays}
use Rattle.pts_grow.proofs.Lifted.{if_term}
use Rattle.pts_match.proofs.Lowered.{let_lowered}
use Rattle.pts_match.proofs.lowering.+lower_parts.Goals as goal

pub returns-in_ok-b-in-Let-clause-term : goal.returns-in_ok-b-in-Let-clause-term
returns-in_ok-b-in-Let-clause-term t c =
    let a = c.args.proof.now in
    let b = c.lower_parts-in-Let.new.proof in
    let e = c.lower_parts-in-Let-2.new.proof in
    let f = c.lower_parts-in-Let-3.new.proof in
    let ab = c.in_ok-d-in-Let.ensures.keeps in
    let be = c.in_ok-t-in-Let.ensures.keeps in
    let ef = c.in_ok-b-in-Let.ensures.keeps in
    let links = subst (λ s. AllBelow c.args.term (shape_links s)) c.in-Let.is c.shape.ensures.links in
    let stands = c.requires.term in
    let second : c.in-Let.t < length a.shapes = omega (arith, links.1.0, stands) in
    let third : c.in-Let.b < length a.shapes = omega (arith, links.1.1.0, stands) in
    if_term c.add_line-in-Let.result c.add_line-in-Let.new.proof _ _
    (let_lowered c.args.from c.args.by c.in_ok-x-in-Let.x c.in-Let.x (named_at a.shapes c.args.term)
    (named_at a.shapes c.in-Let.d) (named_at a.shapes c.in-Let.t) (named_at a.shapes c.in-Let.b)
    (named_at f.shapes c.in_ok-d-in-Let.d) (named_at f.shapes c.in_ok-t-in-Let.t) (named_at f.shapes c.in_ok-b-in-Let.b)
    (c.shape.ensures.named ∙ ap (unfold_shape the_name (named_trees a.shapes)) c.in-Let.is)
    c.in_ok-x-in-Let.ensures
    (tree_stays b f c.in_ok-d-in-Let.d (keeps_trans b e f be ef) c.in_ok-d-in-Let.ensures.term.0 ∙ c.in_ok-d-in-Let.ensures.term.1)
    (tree_stays e f c.in_ok-t-in-Let.t ef c.in_ok-t-in-Let.ensures.term.0 ∙ c.in_ok-t-in-Let.ensures.term.1 ∙ ap (lower c.args.from c.args.by) (tree_stays a b c.in-Let.t ab second))
    (c.in_ok-b-in-Let.ensures.term.1 ∙ ap (lower (c.args.from + 1) c.args.by) (tree_stays a e c.in-Let.b (keeps_trans a b e ab be) third)))
    c.add_line-in-Let.ensures.term

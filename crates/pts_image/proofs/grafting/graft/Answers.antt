use Rattle.std.proofs.Common.{◌≡◌, sym, ◌∙◌}
use Rattle.pts_image.proofs.Last.{last_is}
use Rattle.pts_image.proofs.Grafted.{inner_last, graft_made, all_within_same}
use Rattle.pts_record.specs.Table.{bare_trees}
use Rattle.pts_image.proofs.grafting.graft.Goals as goal

pub overflow_sub-place : goal.overflow_sub-place
overflow_sub-place c = (inner_last c.args.outer.now c.args.inner.now c.args.node c.nodes-place.result c.requires.node c.requires.same c.nodes-place.ensures.number).0

pub node-requires : goal.node-requires
node-requires c = (inner_last c.args.outer.now c.args.inner.now c.args.node c.nodes-place.result c.requires.node c.requires.same c.nodes-place.ensures.number).1

pub unreachable-requires : goal.unreachable-requires
unreachable-requires c = cc (sym (all_within_same (bare_trees c.args.outer.now.shapes) c.shapes_limited.ensures) ∙ c.in-Err-Deep.ensures.deep c.in-Err-Deep.field-0-is)

pub returns-in-Ok : goal.returns-in-Ok
returns-in-Ok c =
    let place = (inner_last c.args.outer.now c.args.inner.now c.args.node c.nodes-place.result c.requires.node c.requires.same c.nodes-place.ensures.number).2 in
    c.in-Ok.ensures.image
    ∙ graft_made c.args.outer.now c.args.inner.now c.in_ok-into.into c.args.node _ c.nodes.result c.node.result c.in_ok-into.ensures c.nodes.ensures.number place (last_is c.args.inner.now _ c.node.result place c.node.ensures.item)

use Rattle.pts_image.specs.Appending as appending
use Rattle.pts_image.proofs.Steps.{next_node}
use Rattle.pts_image.proofs.append.append_nodes.Goals as goal

pub loop-number-preserved : goal.loop-number-preserved
loop-number-preserved g c =
    next_node c.args.into.now c.loop-number.into c.add_node.new.self
    (appending.node_image (appending.new_number c.args.proof.now.nodes c.args.numbering) c.args.terms (g.R.Replacements.replacement c.args.replacements.now) c.args.proof.now)
    c.args.proof.now.nodes c.loop-number.number c.node.result _ c.loop-number.invariant c.node.ensures.item c.in_ok-node.ensures c.in-Ok.ensures.added

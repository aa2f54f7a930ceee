use Rattle.std.proofs.Common.{sym, ◌∙◌}
use Rattle.pts_image.proofs.Last.{last_there, last_is, subject_is}
use Rattle.pts_image.proofs.Substituted.{substituted_made, substituted_within}
use Rattle.pts_image.proofs.substitution.subst_const.Goals as goal

pub overflow_sub-node : goal.overflow_sub-node
overflow_sub-node c = (last_there c.args.argument.now c.nodes-node.result c.requires.judges c.nodes-node.ensures.number).0

pub node-last-requires : goal.node-last-requires
node-last-requires c = (last_there c.args.argument.now c.nodes-node.result c.requires.judges c.nodes-node.ensures.number).1

pub returns-in-Ok-clause-image : goal.returns-in-Ok-clause-image
returns-in-Ok-clause-image c =
    let here = (last_there c.args.argument.now c.nodes-node.result c.requires.judges c.nodes-node.ensures.number).2 in
    c.in-Ok.ensures.image
    ∙ substituted_made c.args.argument.now c.in_ok-into.into c.args.proof.now c.args.name.now c.node-last.result _ c.in_ok-into.ensures here (last_is c.args.argument.now _ c.node-last.result here c.node-last.ensures.item)

pub returns-in-Ok-clause-within : goal.returns-in-Ok-clause-within
returns-in-Ok-clause-within c =
    let here = (last_there c.args.argument.now c.nodes-node.result c.requires.judges c.nodes-node.ensures.number).2 in
    sym (substituted_within c.args.argument.now c.in_ok-into.into c.args.proof.now c.args.name.now c.node-last.result _ c.in_ok-into.ensures here (last_is c.args.argument.now _ c.node-last.result here c.node-last.ensures.item)
    (subject_is c.args.argument.now _ c.node-last.result here c.node-last.ensures.says c.requires.judges))
    ∙ c.in-Ok.ensures.within

pub returns-in-Err-clause-deep : goal.returns-in-Err-clause-deep
returns-in-Err-clause-deep c =
    let here = (last_there c.args.argument.now c.nodes-node.result c.requires.judges c.nodes-node.ensures.number).2 in
    λ q.
    sym (substituted_within c.args.argument.now c.in_ok-into.into c.args.proof.now c.args.name.now c.node-last.result _ c.in_ok-into.ensures here (last_is c.args.argument.now _ c.node-last.result here c.node-last.ensures.item)
    (subject_is c.args.argument.now _ c.node-last.result here c.node-last.ensures.says c.requires.judges))
    ∙ c.in-Err.ensures.deep q

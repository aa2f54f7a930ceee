use Rattle.std.proofs.Common.{◌∙◌, ap}
use Rattle.pts_grow.proofs.Last.{node_there}
use Rattle.pts_grow.proofs.Grow.{with_node, node_says, node_keeps}
use Rattle.pts_grow.proofs.nodes.push.Goals as goal

pub returns-in-Ok-clause-says : goal.returns-in-Ok-clause-says
returns-in-Ok-clause-says c = node_says c.args.proof.now c.note_node.new.self c.args.node c.in-Ok.number c.in-Ok.ensures.number (c.note_node.ensures ∙ c.in-Ok.ensures.added ∙ ap (λ n. with_node c.args.proof.now n) c.requires.kept)

pub returns-in-Ok-clause-keeps : goal.returns-in-Ok-clause-keeps
returns-in-Ok-clause-keeps c = node_keeps c.args.proof.now c.note_node.new.self c.args.node (c.note_node.ensures ∙ c.in-Ok.ensures.added ∙ ap (λ n. with_node c.args.proof.now n) c.requires.kept)

pub returns-in-Ok-clause-line : goal.returns-in-Ok-clause-line
returns-in-Ok-clause-line c = node_there c.args.proof.now c.note_node.new.self c.args.node c.in-Ok.number c.in-Ok.ensures.number (c.note_node.ensures ∙ c.in-Ok.ensures.added ∙ ap (λ n. with_node c.args.proof.now n) c.requires.kept)

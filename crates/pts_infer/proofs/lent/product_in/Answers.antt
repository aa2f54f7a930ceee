use Rattle.pts_infer.proofs.Working.{product_made}
use Rattle.pts_infer.proofs.lent.product_in.Goals as goal

pub infer_formed-requires-clause-parts : goal.infer_formed-requires-clause-parts
infer_formed-requires-clause-parts c = product_made c.args.term.now.name c.requires.term c.requires.parts.0 c.requires.parts.1 c.requires.is

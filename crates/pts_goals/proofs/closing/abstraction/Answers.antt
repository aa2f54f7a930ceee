use Rattle.pts_grow.proofs.Plain.{plain_lam}
use Rattle.pts_goals.proofs.closing.abstraction.Goals as goal

pub add_lam-requires-clause-parts : goal.add_lam-requires-clause-parts
add_lam-requires-clause-parts c = plain_lam c.args.proof.now c.add_line.new.proof c.in-Ok.term c.in-Ok.ensures.keeps c.in_ok-name.name c.args.domain.subject c.args.body.subject c.requires.product.domain.0.0 c.requires.body.0 c.in-Ok.ensures.term.1

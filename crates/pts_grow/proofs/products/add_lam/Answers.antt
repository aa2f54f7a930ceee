use Rattle.pts_grow.proofs.Binders.{lam_ok}
use Rattle.pts_grow.proofs.products.add_lam.Goals as goal

pub returns-in_err-node-clause-valid : goal.returns-in_err-node-clause-valid
returns-in_err-node-clause-valid c = λ S G v. c.push.ensures.valid S G (lam_ok c.args.proof.now c.args.ctx c.requires.typed S G c.args.subject c.args.claim c.args.domain c.args.inner c.args.body c.args.product c.requires.inner c.requires.body c.requires.product c.requires.parts c.requires.ty c.requires.sorted c.requires.sort) v

pub returns-clause-valid : goal.returns-clause-valid
returns-clause-valid c = λ S G v. c.push.ensures.valid S G (lam_ok c.args.proof.now c.args.ctx c.requires.typed S G c.args.subject c.args.claim c.args.domain c.args.inner c.args.body c.args.product c.requires.inner c.requires.body c.requires.product c.requires.parts c.requires.ty c.requires.sorted c.requires.sort) v

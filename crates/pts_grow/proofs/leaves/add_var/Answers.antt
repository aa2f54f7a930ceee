use Rattle.pts_grow.proofs.Atoms.{var_ok}
use Rattle.pts_grow.proofs.leaves.add_var.Goals as goal

pub returns-in_err-node-clause-valid : goal.returns-in_err-node-clause-valid
returns-in_err-node-clause-valid c = λ S G v. c.push.ensures.valid S G (var_ok c.args.proof.now c.args.ctx c.requires.typed c.args.subject c.args.claim S G c.args.index c.args.ty c.requires.variable c.requires.entry c.requires.ty) v

pub returns-clause-valid : goal.returns-clause-valid
returns-clause-valid c = λ S G v. c.push.ensures.valid S G (var_ok c.args.proof.now c.args.ctx c.requires.typed c.args.subject c.args.claim S G c.args.index c.args.ty c.requires.variable c.requires.entry c.requires.ty) v

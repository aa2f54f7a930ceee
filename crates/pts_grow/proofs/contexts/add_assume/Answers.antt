use Rattle.pts_grow.proofs.Longer.{assume_ok}
use Rattle.pts_grow.proofs.contexts.add_assume.Goals as goal

pub returns-in_err-node-clause-valid : goal.returns-in_err-node-clause-valid
returns-in_err-node-clause-valid c = λ S G v. c.push.ensures.valid S G (assume_ok c.args.proof.now c.args.ctx S G c.args.ty c.requires.ty c.requires.sort) v

pub returns-clause-valid : goal.returns-clause-valid
returns-clause-valid c = λ S G v. c.push.ensures.valid S G (assume_ok c.args.proof.now c.args.ctx S G c.args.ty c.requires.ty c.requires.sort) v

use Rattle.pts_grow.proofs.Converted.{thin_ok}
use Rattle.pts_grow.proofs.conversions.add_thin.Goals as goal

pub returns-in_err-node-clause-valid : goal.returns-in_err-node-clause-valid
returns-in_err-node-clause-valid c = λ S G v. c.push.ensures.valid S G (thin_ok c.args.proof.now c.args.ctx c.requires.typed S G c.args.subject c.args.claim c.args.from c.args.premise c.args.by c.requires.premise c.requires.distance c.requires.lifted c.requires.ty) v

pub returns-clause-valid : goal.returns-clause-valid
returns-clause-valid c = λ S G v. c.push.ensures.valid S G (thin_ok c.args.proof.now c.args.ctx c.requires.typed S G c.args.subject c.args.claim c.args.from c.args.premise c.args.by c.requires.premise c.requires.distance c.requires.lifted c.requires.ty) v

use Rattle.pts_grow.proofs.Converted.{conv_ok}
use Rattle.pts_grow.proofs.conversions.add_conv.Goals as goal

pub returns-in_err-node-clause-valid : goal.returns-in_err-node-clause-valid
returns-in_err-node-clause-valid c = λ S G v. c.push.ensures.valid S G (conv_ok c.args.proof.now c.args.ctx c.requires.typed S G c.args.subject c.args.claim c.args.judged c.args.wanted c.args.compared c.requires.judged c.requires.wanted c.requires.compared c.requires.same c.requires.ty c.requires.sort c.requires.left c.requires.right) v

pub returns-clause-valid : goal.returns-clause-valid
returns-clause-valid c = λ S G v. c.push.ensures.valid S G (conv_ok c.args.proof.now c.args.ctx c.requires.typed S G c.args.subject c.args.claim c.args.judged c.args.wanted c.args.compared c.requires.judged c.requires.wanted c.requires.compared c.requires.same c.requires.ty c.requires.sort c.requires.left c.requires.right) v

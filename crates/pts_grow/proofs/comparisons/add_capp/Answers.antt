use Rattle.pts_grow.proofs.Instances.{capp_ok}
use Rattle.pts_grow.proofs.comparisons.add_capp.Goals as goal

pub returns-in_err-node-clause-valid : goal.returns-in_err-node-clause-valid
returns-in_err-node-clause-valid c = λ S G v. c.push.ensures.valid S G (capp_ok c.args.proof.now c.args.ctx c.requires.context S G c.args.left c.args.right c.args.functions c.args.arguments c.requires.functions c.requires.arguments c.requires.left_parts c.requires.right_parts) v

pub returns-clause-valid : goal.returns-clause-valid
returns-clause-valid c = λ S G v. c.push.ensures.valid S G (capp_ok c.args.proof.now c.args.ctx c.requires.context S G c.args.left c.args.right c.args.functions c.args.arguments c.requires.functions c.requires.arguments c.requires.left_parts c.requires.right_parts) v

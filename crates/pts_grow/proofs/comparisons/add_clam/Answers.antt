use Rattle.pts_grow.proofs.Instances.{clam_ok}
use Rattle.pts_grow.proofs.comparisons.add_clam.Goals as goal

pub returns-in_err-node-clause-valid : goal.returns-in_err-node-clause-valid
returns-in_err-node-clause-valid c = λ S G v. c.push.ensures.valid S G (clam_ok c.args.proof.now c.args.ctx c.requires.context S c.args.left c.args.right c.args.inner c.args.domains c.args.bodies c.requires.domains c.requires.inner c.requires.bodies G c.requires.left_parts c.requires.right_parts) v

pub returns-clause-valid : goal.returns-clause-valid
returns-clause-valid c = λ S G v. c.push.ensures.valid S G (clam_ok c.args.proof.now c.args.ctx c.requires.context S c.args.left c.args.right c.args.inner c.args.domains c.args.bodies c.requires.domains c.requires.inner c.requires.bodies G c.requires.left_parts c.requires.right_parts) v

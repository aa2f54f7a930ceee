use Rattle.pts_ctx.specs.Front.{bare_front}
use Rattle.pts_grow.proofs.Instances.{left_ok}
use Rattle.pts_grow.proofs.comparisons.add_left.Goals as goal

pub returns-in_err-node-clause-valid : goal.returns-in_err-node-clause-valid
returns-in_err-node-clause-valid c = λ S v. c.push.ensures.valid S (bare_front c.args.front.now.entries) (left_ok c.args.proof.now c.args.ctx c.requires.context S c.args.front.now.entries c.args.left c.args.next c.requires.next c.requires.step) v

pub returns-clause-valid : goal.returns-clause-valid
returns-clause-valid c = λ S v. c.push.ensures.valid S (bare_front c.args.front.now.entries) (left_ok c.args.proof.now c.args.ctx c.requires.context S c.args.front.now.entries c.args.left c.args.next c.requires.next c.requires.step) v

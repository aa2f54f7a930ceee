use Rattle.pts_ctx.specs.Front.{bare_front}
use Rattle.pts_grow.proofs.Atoms.{const_ok}
use Rattle.pts_grow.proofs.leaves.add_const.Goals as goal

pub returns-in_err-node-clause-valid : goal.returns-in_err-node-clause-valid
returns-in_err-node-clause-valid c = λ S v. c.push.ensures.valid S (bare_front c.args.front.now.entries) (const_ok c.args.proof.now c.args.ctx c.requires.typed c.args.subject c.args.claim S c.args.front.now.entries c.requires.entry) v

pub returns-clause-valid : goal.returns-clause-valid
returns-clause-valid c = λ S v. c.push.ensures.valid S (bare_front c.args.front.now.entries) (const_ok c.args.proof.now c.args.ctx c.requires.typed c.args.subject c.args.claim S c.args.front.now.entries c.requires.entry) v

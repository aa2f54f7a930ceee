use Rattle.pts_grow.proofs.Defined.{letsort_ok}
use Rattle.pts_grow.proofs.definitions.add_letsort.Goals as goal

pub returns-in_err-node-clause-valid : goal.returns-in_err-node-clause-valid
returns-in_err-node-clause-valid c = λ S G v. c.push.ensures.valid S G (letsort_ok c.args.proof.now c.args.ctx c.requires.typed S G c.args.subject c.args.claim c.args.definition c.args.inner c.args.body c.requires.inner c.requires.body c.requires.parts c.requires.ty c.requires.sort) v

pub returns-clause-valid : goal.returns-clause-valid
returns-clause-valid c = λ S G v. c.push.ensures.valid S G (letsort_ok c.args.proof.now c.args.ctx c.requires.typed S G c.args.subject c.args.claim c.args.definition c.args.inner c.args.body c.requires.inner c.requires.body c.requires.parts c.requires.ty c.requires.sort) v

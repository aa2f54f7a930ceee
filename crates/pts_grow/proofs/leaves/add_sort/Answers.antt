use Rattle.pts_grow.proofs.Atoms.{sort_ok}
use Rattle.pts_grow.proofs.leaves.add_sort.Goals as goal

pub returns-in_err-node-clause-valid : goal.returns-in_err-node-clause-valid
returns-in_err-node-clause-valid c = λ G v. c.push.ensures.valid c.args.system.now G (sort_ok c.args.proof.now c.args.ctx c.requires.typed c.args.subject c.args.claim c.args.system.now G c.args.own.0 c.args.above.0 c.requires.sort c.requires.axiom c.requires.ty) v

pub returns-clause-valid : goal.returns-clause-valid
returns-clause-valid c = λ G v. c.push.ensures.valid c.args.system.now G (sort_ok c.args.proof.now c.args.ctx c.requires.typed c.args.subject c.args.claim c.args.system.now G c.args.own.0 c.args.above.0 c.requires.sort c.requires.axiom c.requires.ty) v

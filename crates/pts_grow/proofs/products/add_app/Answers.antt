use Rattle.pts_grow.proofs.Binders.{app_ok}
use Rattle.pts_grow.proofs.products.add_app.Goals as goal

pub returns-in_err-node-clause-valid : goal.returns-in_err-node-clause-valid
returns-in_err-node-clause-valid c = λ S G v. c.push.ensures.valid S G (app_ok c.args.proof.now c.args.ctx c.requires.typed S G c.args.subject c.args.claim c.args.function c.args.argument c.args.domain c.args.codomain c.requires.function c.requires.argument c.requires.product c.requires.domain c.requires.parts c.requires.ty) v

pub returns-clause-valid : goal.returns-clause-valid
returns-clause-valid c = λ S G v. c.push.ensures.valid S G (app_ok c.args.proof.now c.args.ctx c.requires.typed S G c.args.subject c.args.claim c.args.function c.args.argument c.args.domain c.args.codomain c.requires.function c.requires.argument c.requires.product c.requires.domain c.requires.parts c.requires.ty) v

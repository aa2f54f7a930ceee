use Rattle.std.proofs.Common.{ap}
use Rattle.std.specs.Option.{option_map}
use Rattle.pts_grow.proofs.Binders.{pi_ok}
use Rattle.pts_grow.proofs.products.add_pi.Goals as goal

pub returns-in_err-node-clause-valid : goal.returns-in_err-node-clause-valid
returns-in_err-node-clause-valid c = λ G v. c.push.ensures.valid c.args.system.now G (pi_ok c.args.proof.now c.args.ctx c.requires.typed c.args.system.now G c.args.subject c.args.claim c.args.domain c.args.inner c.args.body c.args.rule.domain.0 c.args.rule.body.0 c.args.rule.product.0 c.requires.domain c.requires.inner c.requires.body c.requires.parts c.requires.domain_sort c.requires.body_sort c.requires.rule c.requires.ty) v

pub returns-clause-valid : goal.returns-clause-valid
returns-clause-valid c = λ G v. c.push.ensures.valid c.args.system.now G (pi_ok c.args.proof.now c.args.ctx c.requires.typed c.args.system.now G c.args.subject c.args.claim c.args.domain c.args.inner c.args.body c.args.rule.domain.0 c.args.rule.body.0 c.args.rule.product.0 c.requires.domain c.requires.inner c.requires.body c.requires.parts c.requires.domain_sort c.requires.body_sort c.requires.rule c.requires.ty) v

pub returns-clause-node : goal.returns-clause-node
returns-clause-node c =
    let e = c.in_ok-node.ensures.line in
    record { form = ap (option_map (λ l. l.form)) e; first = ap (option_map (λ l. l.first)) e; second = ap (option_map (λ l. l.second)) e }

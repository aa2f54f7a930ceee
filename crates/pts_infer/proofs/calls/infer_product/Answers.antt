use Rattle.pts_infer.proofs.Working.{parts_told}
use Rattle.pts_infer.proofs.calls.infer_product.Goals as goal

pub returns-in-Ok-clause-parts : goal.returns-in-Ok-clause-parts
returns-in-Ok-clause-parts c =
    let b = c.in_ok-binder.ensures in
    let p = c.in-Ok.ensures in
    parts_told c.args.proof.now c.product_in.new.proof c.in_ok-binder.binder.name c.args.term _ _ _ _ p.keeps b.parts.0 b.parts.1 b.is p.parts.0 p.parts.1

use Rattle.std.proofs.Common.{◌≡◌, suc, ◌-◌, arith}
use Rattle.pts_infer_cost.proofs.Steps.{inferred_too_deep}
use Rattle.pts_infer.proofs.Running.{comes_to}
use Rattle.pts_infer.proofs.ByRule.{forms_product}
use Rattle.pts_infer.proofs.work.Work.infer_formed.Goals as goal

pub returns-then-at-eq0-clause-runs : goal.returns-then-at-eq0-clause-runs
returns-then-at-eq0-clause-runs c =
    record { gives = inferred_too_deep _ _ _ _ _ _ _ c.if-at-eq0.true (c.pay.ensures.paid c.if-not-pay.false) }

pub returns-clause-runs : goal.returns-clause-runs
returns-clause-runs c =
    let h = c.if-at-eq0.false in
    let e : c.args.at.allowed ≡ suc (c.args.at.allowed - 1) = omega (arith, h) in
    comes_to (forms_product c.args.at c.args.term.now.name c.args.term.now.domain c.args.term.now.body (c.args.at.allowed - 1) c.pay.ensures.grown c.pay.ensures.record e (c.pay.ensures.paid c.if-not-pay.false) c.requires.term) c.infer_product.ensures.runs

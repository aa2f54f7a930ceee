use Rattle.std.proofs.Common.{◌+◌, ap, sym, ◌∙◌, Some}
use Rattle.pts_terms.specs.Tree.{lift}
use Rattle.pts_ctx.specs.Front.{entry_at}
use Rattle.pts_record.specs.Table.{named_at}
use Rattle.pts_record.specs.Said.{named_told, scope_of}
use Rattle.pts_rules.specs.Meter.{left}
use Rattle.pts_reduce_cost.proofs.Steps.{made_as}
use Rattle.pts_reduce.proofs.Stepping.{local_made}
use Rattle.pts_reduce.proofs.step.unfold_local.Goals as goal

pub returns-clause-runs : goal.returns-clause-runs
returns-clause-runs c =
    let L = (scope_of (named_told c.args.proof.now c.args.ctx)).entries in
    made_as _ _ _ (left c.args.meter.now) (left c.pay.new.meter) (local_made c.args.index (entry_at L c.args.index) (named_at c.args.proof.now.shapes c.in-Some.found) c.in-Some.ensures.definition ∙ ap (λ n. Some (lift 0 (n + 1) (named_at c.args.proof.now.shapes c.in-Some.found))) (sym c.from.ensures)) c.in_ok-pay.ensures.paid c.in_ok-made.ensures.term.1 c.in_ok-made.ensures.within

use Rattle.std.proofs.Common.{◌≡◌, [], subst}
use Rattle.pts_record.specs.Table.{named_at}
use Rattle.pts_rules.specs.Meter.{left}
use Rattle.pts_reduce_cost.specs.Run.{ends}
use Rattle.pts_infer_cost.specs.Typing.{Fits}
use Rattle.pts_infer_cost.specs.Inference.{inferred, fitted}
use Rattle.pts_infer_cost.proofs.Exact.{fit_within, fit_exact}
use Rattle.pts_infer.specs.Given.{MisfitsWith}
use Rattle.pts_infer.proofs.Refusals.{unfit_as}
use Rattle.pts_infer.proofs.terms.fit_judged.Goals as goal

pub returns-in_ok-proof-in-Ok-clause-fitted : goal.returns-in_ok-proof-in-Ok-clause-fitted
returns-in_ok-proof-in-Ok-clause-fitted c =
    let S = c.args.system.now in
    let G = c.args.front.now.entries in
    let T = named_at c.args.proof.shapes c.args.judged.claim in
    let W = named_at c.args.proof.shapes c.args.want in
    let run = subst (λ L. fitted S G (inferred S G 4000) L T W (left c.args.meter.now) ≡ ends tt (left c.fit_in.new.meter)) c.requires.empty c.in-Ok.ensures.runs in
    fit_within S G 4000 [] T W (left c.args.meter.now) (left c.fit_in.new.meter) run

pub returns-in-Err-clause-refused : goal.returns-in-Err-clause-refused
returns-in-Err-clause-refused c =
    let S = c.args.system.now in
    let G = c.args.front.now.entries in
    let T = named_at c.args.proof.shapes c.args.judged.claim in
    let W = named_at c.args.proof.shapes c.args.want in
    let b = left c.args.meter.now in
    let run = subst (λ L. MisfitsWith c.fit_in.new.proof.shapes c.in-Err.misfit (left c.fit_in.new.meter) (fitted S G (inferred S G 4000) L T W b)) c.requires.empty c.in-Err.ensures.runs in
    unfit_as (Fits S G 4000 [] T W) b (fitted S G (inferred S G 4000) [] T W b) c.fit_in.new.proof.shapes [] c.in-Err.misfit c.show_misfit.result (left c.fit_in.new.meter) (fit_exact S G 4000 [] T W b) c.show_misfit.ensures run

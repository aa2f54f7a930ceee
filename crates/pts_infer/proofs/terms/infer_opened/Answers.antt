use Rattle.std.proofs.Common.{◌≡◌, [], subst}
use Rattle.pts_record.specs.Table.{named_at}
use Rattle.pts_rules.specs.Meter.{left}
use Rattle.pts_reduce_cost.specs.Run.{ends}
use Rattle.pts_infer_cost.specs.Inference.{inferred}
use Rattle.pts_infer.specs.Given.{StopsWith}
use Rattle.pts_infer.specs.Answered.{OfTerm}
use Rattle.pts_infer.proofs.Refusals.{refused_as}
use Rattle.pts_infer.proofs.Conclusions.{term_exact, term_typed}
use Rattle.pts_infer.proofs.terms.infer_opened.Goals as goal

pub returns-in_ok-typed-in-Ok-clause-typed : goal.returns-in_ok-typed-in-Ok-clause-typed
returns-in_ok-typed-in-Ok-clause-typed c =
    let t = named_at c.args.opened.proof.shapes c.args.opened.term in
    let run = subst (λ L. inferred c.args.system.now c.args.front.now.entries 4000 L t (left c.args.meter.now) ≡ ends (named_at c.infer_in.new.proof.shapes c.in-Ok.judged.claim) (left c.infer_in.new.meter)) c.requires.opened.2 c.in-Ok.ensures.runs in
    term_typed c.args.system.now c.args.front.now.entries t (named_at c.infer_in.new.proof.shapes c.in-Ok.judged.claim) c.in_ok-typed-in-Ok.field-0.ty (left c.args.meter.now) (left c.infer_in.new.meter) c.requires.within run c.in_ok-typed-in-Ok.ensures.ty

pub returns-in-Err-clause-refused : goal.returns-in-Err-clause-refused
returns-in-Err-clause-refused c =
    let S = c.args.system.now in
    let G = c.args.front.now.entries in
    let t = named_at c.args.opened.proof.shapes c.args.opened.term in
    let b = left c.args.meter.now in
    let run = subst (λ L. StopsWith c.infer_in.new.proof.shapes c.in-Err.fault (left c.infer_in.new.meter) (inferred S G 4000 L t b)) c.requires.opened.2 c.in-Err.ensures.runs in
    refused_as (OfTerm S G t) b (inferred S G 4000 [] t b) c.infer_in.new.proof.shapes [] c.in-Err.fault c.show_fault.result (left c.infer_in.new.meter) (term_exact S G t b c.requires.within) c.show_fault.ensures run

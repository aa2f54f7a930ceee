use Rattle.std.proofs.Common.{◌≡◌, [], subst}
use Rattle.pts_record.specs.Table.{named_at}
use Rattle.pts_rules.specs.Meter.{left}
use Rattle.pts_reduce_cost.specs.Run.{ends}
use Rattle.pts_infer_cost.specs.Inference.{inferred, sorted}
use Rattle.pts_infer.specs.Given.{StopsWith}
use Rattle.pts_infer.specs.Answered.{OfType}
use Rattle.pts_infer.proofs.Refusals.{refused_as}
use Rattle.pts_infer.proofs.Conclusions.{type_exact, type_sorts}
use Rattle.pts_infer.proofs.terms.sort_opened.Goals as goal

pub returns-in_ok-closed_type-in-Ok-clause-sorted : goal.returns-in_ok-closed_type-in-Ok-clause-sorted
returns-in_ok-closed_type-in-Ok-clause-sorted c =
    let S = c.args.system.now in
    let G = c.args.front.now.entries in
    let A = named_at c.args.opened.proof.shapes c.args.opened.term in
    let run = subst (λ L. sorted S G (inferred S G 4000) L A (left c.args.meter.now) ≡ ends c.in-Ok.sorted.sort.0 (left c.sorted_in.new.meter)) c.requires.opened.2 c.in-Ok.ensures.runs in
    type_sorts S G A c.in-Ok.sorted.sort.0 (left c.args.meter.now) (left c.sorted_in.new.meter) c.requires.within run

pub returns-in-Err-clause-refused : goal.returns-in-Err-clause-refused
returns-in-Err-clause-refused c =
    let S = c.args.system.now in
    let G = c.args.front.now.entries in
    let A = named_at c.args.opened.proof.shapes c.args.opened.term in
    let b = left c.args.meter.now in
    let run = subst (λ L. StopsWith c.sorted_in.new.proof.shapes c.in-Err.fault (left c.sorted_in.new.meter) (sorted S G (inferred S G 4000) L A b)) c.requires.opened.2 c.in-Err.ensures.runs in
    refused_as (OfType S G A) b (sorted S G (inferred S G 4000) [] A b) c.sorted_in.new.proof.shapes [] c.in-Err.fault c.show_fault.result (left c.sorted_in.new.meter) (type_exact S G A b c.requires.within) c.show_fault.ensures run

use Rattle.std.proofs.Common.{◌≡◌, [], subst}
use Rattle.pts_record.specs.Table.{named_at}
use Rattle.pts_rules.specs.Meter.{left}
use Rattle.pts_reduce_cost.specs.Run.{ends}
use Rattle.pts_infer_cost.specs.Inference.{inferred}
use Rattle.pts_grow.proofs.Grow.{tree_stays}
use Rattle.pts_infer.specs.Given.{StopsWith}
use Rattle.pts_infer.proofs.Conclusions.{both_fit, both_refused, judged_refused}
use Rattle.pts_infer.proofs.terms.infer_both.Goals as goal

pub returns-in-Ok-clause-fitted : goal.returns-in-Ok-clause-fitted
returns-in-Ok-clause-fitted c =
    let S = c.args.system.now in
    let G = c.args.front.now.entries in
    let a = c.args.opened.proof in
    let b = c.infer_in.new.proof in
    let t = named_at a.shapes c.args.opened.term in
    let run = subst (λ L. inferred S G 4000 L t (left c.args.meter.now) ≡ ends (named_at b.shapes c.in-Ok.judged.claim) (left c.infer_in.new.meter)) c.requires.opened.2 c.in-Ok.ensures.runs in
    both_fit S G t (named_at a.shapes c.args.want) c.requires.within c.requires.fits (named_at b.shapes c.in-Ok.judged.claim) (named_at b.shapes c.args.want) (left c.args.meter.now) (left c.infer_in.new.meter) (left c.fit_judged.new.meter) run (tree_stays a b c.args.want c.in-Ok.ensures.keeps c.requires.want) c.fit_judged.result c.fit_judged.ensures.fitted

pub returns-in-Ok-clause-refused : goal.returns-in-Ok-clause-refused
returns-in-Ok-clause-refused c =
    let S = c.args.system.now in
    let G = c.args.front.now.entries in
    let a = c.args.opened.proof in
    let b = c.infer_in.new.proof in
    let t = named_at a.shapes c.args.opened.term in
    let run = subst (λ L. inferred S G 4000 L t (left c.args.meter.now) ≡ ends (named_at b.shapes c.in-Ok.judged.claim) (left c.infer_in.new.meter)) c.requires.opened.2 c.in-Ok.ensures.runs in
    both_refused S G t (named_at a.shapes c.args.want) c.requires.within c.requires.fits (named_at b.shapes c.in-Ok.judged.claim) (named_at b.shapes c.args.want) (left c.args.meter.now) (left c.infer_in.new.meter) (left c.fit_judged.new.meter) run (tree_stays a b c.args.want c.in-Ok.ensures.keeps c.requires.want) c.fit_judged.result c.fit_judged.ensures.refused

pub returns-in-Err-clause-refused : goal.returns-in-Err-clause-refused
returns-in-Err-clause-refused c =
    let S = c.args.system.now in
    let G = c.args.front.now.entries in
    let a = c.args.opened.proof in
    let t = named_at a.shapes c.args.opened.term in
    let b = left c.args.meter.now in
    let run = subst (λ L. StopsWith c.infer_in.new.proof.shapes c.in-Err.fault (left c.infer_in.new.meter) (inferred S G 4000 L t b)) c.requires.opened.2 c.in-Err.ensures.runs in
    judged_refused S G t (named_at a.shapes c.args.want) c.requires.within c.requires.fits b c.infer_in.new.proof.shapes [] c.in-Err.fault c.show_judged.result (left c.infer_in.new.meter) c.show_judged.ensures run

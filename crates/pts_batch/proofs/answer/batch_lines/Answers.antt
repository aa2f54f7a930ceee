use Rattle.std.proofs.Common.{◌≡◌, [], ap, map, subst, sym}
use Rattle.pts_rules.specs.Meter.{left}
use Rattle.pts_batch.specs.Loading.{Loads, entered}
use Rattle.pts_batch.specs.Batches.{BatchAnswers, with_entries}
use Rattle.pts_batch.specs.Calls.{Stops, AnswersFault}
use Rattle.pts_batch.specs.Evidence.{numbered, AllDeclarable}
use Rattle.pts_batch.specs.Shown.{answer_seen}
use Rattle.pts_batch.proofs.Short.{label_short, all_declarable}
use Rattle.pts_batch.proofs.Answering.{both_ok, entered_answer, fault_answer, nothing_evident, all_evident, spent_and_left, from_new}
use Rattle.pts_batch.proofs.answer.batch_lines.Goals as goal

pub load-requires-clause-label : goal.load-requires-clause-label
load-requires-clause-label c = label_short c.args.name.now c.requires.short

pub load-requires-clause-names : goal.load-requires-clause-names
load-requires-clause-names c = subst AllDeclarable (sym (ap (λ v. v.items) c.declarations_of-lines.ensures)) (all_declarable c.args.file.declarations.items c.requires.names)

pub returns-in-Ok-clause-answer : goal.returns-in-Ok-clause-answer
returns-in-Ok-clause-answer c =
    let S = c.args.world.now.system in
    let M = c.args.name.now in
    let bytes = c.args.bytes.now in
    let b = c.args.budget in
    let m = c.args.file in
    let G = c.in-Ok.loading.context.entries in
    let k = left c.load.new.meter in
    let l = from_new c.new-meter.result b c.declarations_of-lines.result.items m.declarations.items c.new-meter.ensures (ap (λ v. v.items) c.declarations_of-lines.ensures) (λ x d. Loads S M [] (map numbered x) d (entered G) k) c.in-Ok.ensures.loaded in
    both_ok c.finish.result (λ r. answer_seen r ≡ with_entries S.sorts M G) (λ r. r.units ≡ c.spent.result) (λ r. BatchAnswers S M bytes b (answer_seen r) r.units) (λ r q z. entered_answer S M bytes b (answer_seen r) r.units m G k c.requires.read c.requires.built l (spent_and_left c.new-meter.result c.load.new.meter b c.spent.result r.units c.new-meter.ensures c.load.ensures.later c.spent.ensures.spent c.spent.ensures.within z) q) c.finish.ensures.answer c.finish.ensures.units

pub returns-in-Ok-clause-evidence : goal.returns-in-Ok-clause-evidence
returns-in-Ok-clause-evidence c = all_evident c.args.world.now.system c.finish.result c.finish.ensures.entries c.finish.ensures.evidence

pub returns-in-Err-clause-answer : goal.returns-in-Err-clause-answer
returns-in-Err-clause-answer c =
    let S = c.args.world.now.system in
    let M = c.args.name.now in
    let bytes = c.args.bytes.now in
    let b = c.args.budget in
    let m = c.args.file in
    let fault = c.in-Err.fault in
    let k = left c.load.new.meter in
    let l = from_new c.new-meter.result b c.declarations_of-lines.result.items m.declarations.items c.new-meter.ensures (ap (λ v. v.items) c.declarations_of-lines.ensures) (λ x d. Stops (Loads S M [] (map numbered x)) d k fault) c.in-Err.ensures.refused in
    both_ok c.stopped.result (λ r. AnswersFault S.sorts M fault (answer_seen r)) (λ r. r.units ≡ c.spent-in-Err.result) (λ r. BatchAnswers S M bytes b (answer_seen r) r.units) (λ r q z. fault_answer S M bytes b (answer_seen r) r.units m fault k c.requires.read c.requires.built l (spent_and_left c.new-meter.result c.load.new.meter b c.spent-in-Err.result r.units c.new-meter.ensures c.load.ensures.later c.spent-in-Err.ensures.spent c.spent-in-Err.ensures.within z) q) c.stopped.ensures.answer c.stopped.ensures.units

pub returns-in-Err-clause-evidence : goal.returns-in-Err-clause-evidence
returns-in-Err-clause-evidence c = nothing_evident c.args.world.now.system c.stopped.result c.stopped.ensures.evidence

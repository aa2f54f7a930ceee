use Rattle.std.proofs.Common.{◌≡◌}
use Rattle.pts_batch.specs.Batches.{BatchAnswers}
use Rattle.pts_batch.specs.Calls.{AnswersBadFile}
use Rattle.pts_batch.specs.Shown.{answer_seen}
use Rattle.pts_batch.proofs.Answering.{both_ok, bad_file_answer, nothing_evident}
use Rattle.pts_batch.proofs.answer.batch.Goals as goal

pub returns-in-Ok-clause-answer : goal.returns-in-Ok-clause-answer
returns-in-Ok-clause-answer c = c.batch_file.ensures.answer

pub returns-in-Ok-clause-evidence : goal.returns-in-Ok-clause-evidence
returns-in-Ok-clause-evidence c = c.batch_file.ensures.evidence

pub returns-in-Err-clause-answer : goal.returns-in-Err-clause-answer
returns-in-Err-clause-answer c =
    let S = c.args.world.now.system in
    let M = c.args.name.now in
    let bytes = c.args.bytes.now in
    let b = c.args.budget in
    let fault = c.in-Err.fault in
    both_ok c.bad_file.result (λ r. AnswersBadFile M fault (answer_seen r)) (λ r. r.units ≡ 0) (λ r. BatchAnswers S M bytes b (answer_seen r) r.units) (λ r q z. bad_file_answer S M bytes b (answer_seen r) r.units fault c.in-Err.ensures.refused q z) c.bad_file.ensures.answer c.bad_file.ensures.units

pub returns-in-Err-clause-evidence : goal.returns-in-Err-clause-evidence
returns-in-Err-clause-evidence c = nothing_evident c.args.world.now.system c.bad_file.result c.bad_file.ensures.evidence

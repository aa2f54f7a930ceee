use Rattle.std.proofs.Common.{◌≡◌, ◌++◌, sym}
use Rattle.std.specs.Prelude.{codes}
use Rattle.std.specs.Fmt.{decimal}
use Rattle.pts_module_file.specs.File.{module_file_of}
use Rattle.pts_batch.specs.Batches.{BatchAnswers, refusal}
use Rattle.pts_batch.specs.Shown.{answer_seen}
use Rattle.pts_batch.proofs.Answering.{both_ok, not_built_answer, nothing_evident}
use Rattle.pts_batch.proofs.answer.batch_file.Goals as goal

pub returns-in-Some-clause-answer : goal.returns-in-Some-clause-answer
returns-in-Some-clause-answer c =
    let S = c.args.world.now.system in
    let M = c.args.name.now in
    let bytes = c.args.bytes.now in
    let b = c.args.budget in
    let n = c.in-Some.line in
    both_ok c.not_built.result (λ r. answer_seen r ≡ refusal M (codes "NotBuilt " ++ decimal n)) (λ r. r.units ≡ 0) (λ r. BatchAnswers S M bytes b (answer_seen r) r.units) (λ r q z. not_built_answer S M bytes b (answer_seen r) r.units (module_file_of c.args.file) n c.requires.read (sym c.in-Some.ensures) q z) c.not_built.ensures.answer c.not_built.ensures.units

pub returns-in-Some-clause-evidence : goal.returns-in-Some-clause-evidence
returns-in-Some-clause-evidence c = nothing_evident c.args.world.now.system c.not_built.result c.not_built.ensures.evidence

pub returns-in-None-clause-answer : goal.returns-in-None-clause-answer
returns-in-None-clause-answer c = c.batch_lines.ensures.answer

pub returns-in-None-clause-evidence : goal.returns-in-None-clause-evidence
returns-in-None-clause-evidence c = c.batch_lines.ensures.evidence

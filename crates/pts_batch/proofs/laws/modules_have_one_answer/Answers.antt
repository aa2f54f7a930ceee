use Rattle.pts_batch.proofs.Once.{answers_once}
use Rattle.pts_batch.proofs.laws.modules_have_one_answer.Goals as goal

pub returns : goal.returns
returns c = answers_once

use Rattle.pts_format.proofs.Once.{text_once}
use Rattle.pts_format.proofs.laws.texts_have_one_answer.Goals as goal

pub returns : goal.returns
returns c = text_once

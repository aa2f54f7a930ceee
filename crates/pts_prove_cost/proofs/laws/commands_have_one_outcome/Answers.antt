use Rattle.pts_prove_cost.proofs.OneOutcome.{commands_once}
use Rattle.pts_prove_cost.proofs.laws.commands_have_one_outcome.Goals as goal

pub returns : goal.returns
returns c = commands_once

use Rattle.std.proofs.Common.{sym}
use Rattle.pts_prove_cost.specs.Commands.{no_match}
use Rattle.pts_prove.proofs.Searches.{product_standing, pattern_by_form}
use Rattle.pts_prove.proofs.work.Work.open_pattern.Goals as goal

pub returns-in-Some-clause-came : goal.returns-in-Some-clause-came
returns-in-Some-clause-came c = product_standing (λ v. no_match c.args.at.taken) c.args.at.ctx (sym c.in-Some.ensures.parts)

pub returns-in-None-clause-came : goal.returns-in-None-clause-came
returns-in-None-clause-came c = pattern_by_form c.args.at (sym c.in-None.ensures.parts) c.open_pattern_form.ensures.came

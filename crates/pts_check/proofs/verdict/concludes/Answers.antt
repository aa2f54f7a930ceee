use Rattle.std.proofs.Common.{sym, ◌∙◌}
use Rattle.pts_check.specs.Entered.{bare_declared}
use Rattle.pts_check.proofs.Faulted.{nothing_concluded}
use Rattle.pts_check.proofs.verdict.concludes.Goals as goal

pub returns-then-nodes-eq0-clause-concludes : goal.returns-then-nodes-eq0-clause-concludes
returns-then-nodes-eq0-clause-concludes c = sym (nothing_concluded c.args.declaration.now.proof (bare_declared c.args.declaration.now) (sym c.nodes-nodes.ensures.number ∙ c.if-nodes-eq0.true))

use Rattle.std.proofs.Common.{sym, ◌∙◌}
use Rattle.pts_core.proofs.InnerNames.{none_is_inner}
use Rattle.pts_core.proofs.inner.first_inner.Goals as goal

pub returns-clause-none : goal.returns-clause-none
returns-clause-none c = λ h. none_is_inner c.args.declarations.now (sym c.place_of_inner.ensures ∙ h)

use Rattle.std.proofs.Common.{sym, subst}
use Rattle.pts_infer_cost.specs.Typing.{under}
use Rattle.pts_infer.specs.Given.{ToldAs}
use Rattle.pts_infer.proofs.told.under_binder.Goals as goal

pub returns-in-Flawed : goal.returns-in-Flawed
returns-in-Flawed c =
    λ ss. subst (λ e. ToldAs (under c.args.part c.args.x.now) ss e c.outwards_under.result) (sym c.in-Flawed.is) (c.outwards_under.ensures ss)

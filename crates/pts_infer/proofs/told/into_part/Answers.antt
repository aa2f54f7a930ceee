use Rattle.std.proofs.Common.{sym, subst}
use Rattle.pts_infer_cost.specs.Typing.{into}
use Rattle.pts_infer.specs.Given.{ToldAs}
use Rattle.pts_infer.proofs.told.into_part.Goals as goal

pub returns-in-Flawed : goal.returns-in-Flawed
returns-in-Flawed c =
    λ ss. subst (λ e. ToldAs (into c.args.part) ss e c.outwards.result) (sym c.in-Flawed.is) (c.outwards.ensures ss)

use Rattle.std.proofs.Common.{sym, subst}
use Rattle.pts_infer_cost.specs.Typing.{of_definition}
use Rattle.pts_infer.specs.Given.{ToldOf}
use Rattle.pts_infer.proofs.Outwards.{wanted_type, own_value}
use Rattle.pts_infer.proofs.told.for_definition.Goals as goal

pub returns-in-Wanted : goal.returns-in-Wanted
returns-in-Wanted c =
    λ ss. subst (λ e. ToldOf of_definition ss e c.outwards.result) (sym c.in-Wanted.is) (wanted_type ss c.in-Wanted.found c.outwards.result (c.outwards.ensures ss))

pub returns-in-Own : goal.returns-in-Own
returns-in-Own c =
    λ ss. subst (λ e. ToldOf of_definition ss e c.outwards-in-Own.result) (sym c.in-Own.is) (own_value ss c.in-Own.found c.outwards-in-Own.result (c.outwards-in-Own.ensures ss))

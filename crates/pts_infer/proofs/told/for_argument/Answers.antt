use Rattle.std.proofs.Common.{sym, subst}
use Rattle.pts_infer_cost.specs.Typing.{of_argument}
use Rattle.pts_record.specs.Table.{named_at}
use Rattle.pts_infer.specs.Given.{ToldOf}
use Rattle.pts_infer.proofs.Outwards.{unfitting, own_argument}
use Rattle.pts_infer.proofs.told.for_argument.Goals as goal

pub returns-in-Wanted : goal.returns-in-Wanted
returns-in-Wanted c =
    λ ss h. subst (λ e. ToldOf (of_argument (named_at ss c.args.domain)) ss e c.into_part.result) (sym c.in-Wanted.is) (unfitting ss c.in-Wanted.field-0 c.flaw_here.result c.into_part.result c.args.domain (c.flaw_here.ensures ss h) (c.into_part.ensures ss))

pub returns-in-Own : goal.returns-in-Own
returns-in-Own c =
    λ ss h. subst (λ e. ToldOf (of_argument (named_at ss c.args.domain)) ss e c.outwards.result) (sym c.in-Own.is) (own_argument ss c.in-Own.found c.outwards.result c.args.domain (c.outwards.ensures ss))

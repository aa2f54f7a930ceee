use Rattle.pts_infer_cost.specs.Typing.{here}
use Rattle.pts_infer.specs.Given.{kind_of}
use Rattle.pts_infer.proofs.Outwards.{own_here}
use Rattle.pts_infer.proofs.told.misfit_here.Goals as goal

pub returns-in-Flawed : goal.returns-in-Flawed
returns-in-Flawed c =
    λ ss k s. own_here ss (here (kind_of ss c.args.what)) c.in-Flawed.found k (c.in-Flawed.ensures ss s)

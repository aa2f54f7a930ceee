use Rattle.pts_infer_cost.specs.Typing.{here, under, not_a_sort}
use Rattle.pts_record.specs.Table.{named_at}
use Rattle.pts_infer.proofs.Outwards.{found_told}
use Rattle.pts_infer.proofs.told.unsorted_behind.Goals as goal

pub returns : goal.returns
returns c = λ ss h. found_told (under c.args.part c.args.x.now) ss (here (not_a_sort (named_at ss c.args.ty))) c.flaw_here.result c.under_binder.result (c.flaw_here.ensures ss h) (c.under_binder.ensures ss)

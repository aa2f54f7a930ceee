use Rattle.pts_rounds.proofs.Each.{all_by_place, each_ran}
use Rattle.pts_rounds.proofs.round.run_round.Goals as goal

pub run_each-requires-after_bounds : goal.run_each-requires-after_bounds
run_each-requires-after_bounds g c κs within = all_by_place g.W.Worker.ready c.args.workers.now c.requires

pub returns : goal.returns
returns g c = each_ran g.W.Worker.ran c.args.workers.now c.run_each.new.workers c.run_each.ensures

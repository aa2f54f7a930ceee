use Rattle.pts_reduce.proofs.Walks.{join_step}
use Rattle.pts_reduce.proofs.chain.join_left.Goals as goal

pub add_left-requires-clause-step : goal.add_left-requires-clause-step
add_left-requires-clause-step c = join_step c.args.front.now.entries c.args.proof.now c.join.proof c.args.ctx c.args.chain.now.steps.items c.args.chain.now.form c.join.at c.index.result.now c.join.joined.left c.requires.ctx c.join.invariant.5 c.join.invariant.4 c.requires.chain.leads c.join.invariant.0 c.join-test.true c.index.ensures c.join.invariant.1

use Rattle.pts_prove.proofs.Scopes.{found_in_front}
use Rattle.pts_prove.proofs.scope.check_fresh.Goals as goal

pub returns-in-Some-clause-taken : goal.returns-in-Some-clause-taken
returns-in-Some-clause-taken c = found_in_front c.args.front.now.entries c.args.names.now c.args.name.now c.refuse_taken.result c.in-Some.place c.in-Some.ensures.place (c.refuse_taken.ensures c.args.names.now)

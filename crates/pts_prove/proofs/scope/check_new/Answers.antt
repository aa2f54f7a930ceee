use Rattle.std.proofs.Common.{ap, ◌∙◌, ◌+◌}
use Rattle.pts_prove.proofs.Scopes.{found_among}
use Rattle.pts_prove.proofs.scope.check_new.Goals as goal

pub returns-in-Some-checked_add-clause-taken : goal.returns-in-Some-checked_add-clause-taken
returns-in-Some-checked_add-clause-taken c = found_among c.args.front.now.entries c.args.names.now c.args.name.now c.refuse_taken.result c.in-Some.place c.in-Some-checked_add.place c.requires.front c.in-Some.ensures (c.in-Some-checked_add.ensures.1 ∙ ap (λ n. n + c.in-Some.place) c.len.ensures) (c.refuse_taken.ensures c.args.names.now)

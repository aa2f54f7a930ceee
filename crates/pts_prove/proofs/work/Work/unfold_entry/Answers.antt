use Rattle.std.proofs.Common.{sym, ap}
use Rattle.std.specs.Option.{option_map}
use Rattle.pts_terms.specs.Seen.{named}
use Rattle.pts_prove.proofs.BodyPut.{assumption_refused}
use Rattle.pts_prove.proofs.work.Work.unfold_entry.Goals as goal

pub returns-in-None-clause-came : goal.returns-in-None-clause-came
returns-in-None-clause-came c = assumption_refused c.args.goal c.args.name.now (option_map named c.args.entry.now.body) _ (ap (option_map named) (sym c.in-None.is)) (c.refuse_no_body.ensures c.args.self.now.names.now)

use Rattle.pts_share.specs.Sharing.{system_of, table_of}
use Rattle.pts_share.proofs.Resting.{saw_marks}
use Rattle.pts_share.proofs.shared.Shared.take.Goals as goal

pub returns-clause-goes_on : goal.returns-clause-goes_on
returns-clause-goes_on g c = let core = c.take-core.result.core in saw_marks (table_of c.args.self.now) (system_of c.args.self.now) c.args.pass.now core.system core.history c.requires.pass c.take-core.ensures.history

use Rattle.pts_share.specs.Sharing.{core_of, sessions_of, system_of, table_of}
use Rattle.pts_share.proofs.Marks.{added_to}
use Rattle.pts_share.proofs.Resting.{all_go_on}
use Rattle.pts_share.proofs.shared.Shared.close.Goals as goal

pub returns-clause-seen : goal.returns-clause-seen
returns-clause-seen c = let core = c.close-core.result.core in all_go_on (table_of c.args.self) (system_of c.args.self) core.system core.history c.args.passes.items c.requires.passes c.close-core.ensures.seen

pub returns-clause-added : goal.returns-clause-added
returns-clause-added c = let core = c.close-core.result.core in (added_to (sessions_of c.args.self) (system_of c.args.self) core.system (core_of c.args.self).history core.history c.close-core.ensures.added).1

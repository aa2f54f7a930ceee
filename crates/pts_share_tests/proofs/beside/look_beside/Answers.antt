use Rattle.pts_share.specs.Sharing.{system_of, table_of}
use Rattle.pts_share_tests.proofs.Places.{all_stay, sessions_stay}
use Rattle.pts_share_tests.proofs.Sending.{shared_core}
use Rattle.pts_share_tests.proofs.Threads.{crossing}
use Rattle.pts_share_tests.proofs.beside.look_beside.Goals as goal

pub look_each-requires-sync-L : goal.look_each-requires-sync-L
look_each-requires-sync-L g c κs within = search (shared_core, crossing) depth 30 fits 20000

pub returns-clause-passes : goal.returns-clause-passes
returns-clause-passes g c = all_stay (table_of c.args.shared.now) (system_of c.args.shared.now) c.args.passes.now c.look_each.new.passes c.look_each.ensures

pub returns-clause-sessions : goal.returns-clause-sessions
returns-clause-sessions g c = sessions_stay (table_of c.args.shared.now) (system_of c.args.shared.now) c.args.passes.now c.look_each.new.passes c.look_each.ensures

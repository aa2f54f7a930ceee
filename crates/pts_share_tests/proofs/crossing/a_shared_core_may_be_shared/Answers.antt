use Rattle.pts_share_tests.proofs.Threads.{crossing}
use Rattle.pts_share_tests.proofs.crossing.a_shared_core_may_be_shared.Goals as goal

pub shares-requires-sync-T : goal.shares-requires-sync-T
shares-requires-sync-T c κs = search crossing depth 30 fits 20000

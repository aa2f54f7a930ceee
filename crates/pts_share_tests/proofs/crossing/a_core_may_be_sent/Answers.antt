use Rattle.pts_share_tests.proofs.Threads.{crossing}
use Rattle.pts_share_tests.proofs.crossing.a_core_may_be_sent.Goals as goal

pub sends-requires-send-T : goal.sends-requires-send-T
sends-requires-send-T c κs = search crossing depth 30 fits 20000

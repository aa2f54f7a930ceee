use Rattle.pts_share_tests.proofs.Threads.{crossing}
use Rattle.pts_share_tests.proofs.beside.look_each.Goals as goal

pub for_each_mut-requires-send-T : goal.for_each_mut-requires-send-T
for_each_mut-requires-send-T g c κs within = search crossing depth 30 fits 20000

use Rattle.pts_core.specs.Cores.{front_of}
use Rattle.pts_share.specs.Sharing.{system_of, table_of}
use Rattle.pts_share.proofs.Resting.{put_back, rests_again}
use Rattle.pts_share.proofs.shared.Shared.put.Goals as goal

pub put-requires-clause-history : goal.put-requires-clause-history
put-requires-clause-history c = put_back (table_of c.args.self.now) (system_of c.args.self.now) c.args.core.system c.args.core.history c.args.pass.now c.requires.turn c.requires.system

pub returns-clause-pass : goal.returns-clause-pass
returns-clause-pass c =
    (rests_again (table_of c.args.self.now) (system_of c.args.self.now) c.args.core.system (front_of c.args.core) c.args.core.history c.args.pass.now c.put.new.seat c.requires.turn c.requires.system c.is_legal.ensures
    c.put.ensures.own c.put.ensures.owner c.put.ensures.idle c.put.ensures.count).0

pub returns-clause-seen : goal.returns-clause-seen
returns-clause-seen c =
    (rests_again (table_of c.args.self.now) (system_of c.args.self.now) c.args.core.system (front_of c.args.core) c.args.core.history c.args.pass.now c.put.new.seat c.requires.turn c.requires.system c.is_legal.ensures
    c.put.ensures.own c.put.ensures.owner c.put.ensures.idle c.put.ensures.count).1

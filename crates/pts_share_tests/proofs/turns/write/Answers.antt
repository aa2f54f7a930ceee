use Rattle.std.specs.Prelude.{is_ok}
use Rattle.pts_share_tests.proofs.Written.{entries, wrote}
use Rattle.pts_share_tests.proofs.turns.write.Goals as goal

pub put-requires-clause-history : goal.put-requires-clause-history
put-requires-clause-history g c =
    let taken = c.take-log.result.numbers.items in
    let w = wrote c.take-log.new.seat.owner taken c.push.new.self.items (is_ok c.push.result) c.push.ensures.items in
    (entries taken, w.0, c.take-log.ensures.turn.1, c.take-log.ensures.count, w.1, w.2)

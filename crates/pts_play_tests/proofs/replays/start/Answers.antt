use Rattle.std.proofs.Common.{◌≡◌, false}
use Rattle.pts_replay.proofs.Handing.{may_begin}
use Rattle.pts_play_tests.proofs.Seated.{all_true}
use Rattle.pts_play_tests.proofs.replays.start.Goals as goal

pub returns : goal.returns
returns c =
    let e = c.in_ok-play.ensures in
    may_begin (λ s. s.waits ≡ false) (λ _ _. Unit {0}) c.in_ok-play.play c.in_ok-sessions.sessions.items e.sessions c.in_ok-sessions.ensures.count e.lines e.clear e.bare c.in_ok-sessions.ensures.free (all_true c.in_ok-sessions.sessions.items)

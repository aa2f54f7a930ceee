use Rattle.std.proofs.Common.{◌≡◌, false, arith, sym, subst}
use Rattle.std.specs.List.{AllByRecursion}
use Rattle.pts_play_tests.proofs.Seated.{all_push, one_longer}
use Rattle.pts_play_tests.proofs.replays.sessions.Goals as goal

pub places-preserved : goal.places-preserved
places-preserved c =
    let i = c.places.invariant in
    let push = c.in_ok-push.ensures.items in
    let long = one_longer _ _ _ push in
    let own = c.places.sessions.ok.0 in
    let test = c.places-test.true in
    record {
      few = omega (arith, long, own, test, c.len.ensures);
      free = subst (AllByRecursion (λ s. s.waits ≡ false)) (sym push) (all_push (λ s. s.waits ≡ false) c.places.sessions.items _ i.free c.new.ensures);
    }

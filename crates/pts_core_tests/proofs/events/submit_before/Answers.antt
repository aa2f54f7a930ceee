use Rattle.pts_core.specs.declared.event.Event.TheVariants.{Submit}
use Rattle.pts_core.specs.Cores.{front_of}
use Rattle.pts_core.specs.Events.{past_of}
use Rattle.pts_core_tests.proofs.Later.{may_still}
use Rattle.pts_core_tests.proofs.events.submit_before.Goals as goal

pub returns : goal.returns
returns c =
    let C = c.args.core.now in
    let R = c.reserve.new.self in
    may_still c.args.second.now C R c.step.new.self (past_of (Submit 2 c.args.first) (front_of R)) c.requires.second
    c.reserve.ensures.system c.reserve.ensures.entries c.reserve.ensures.labels c.step.ensures.system c.step.ensures.front

use Rattle.pts_play.proofs.Onward.{answer_was_taken_ok}
use Rattle.pts_play.proofs.seat.hear.Goals as goal

pub returns-clause-hears : goal.returns-clause-hears
returns-clause-hears g c =
    let m = c.in_ok-hear_only.ensures in
    let w = m.resumed in
    answer_was_taken_ok (g.P.Player.local c.args.world.now) (g.P.Player.resumes c.args.world.now) c.run_on.result c.args.seat.now c.hear_only.new.seat c.run_on.new.seat c.args.answer w.0 m.idle m.lines m.next w.1 w.2 c.run_on.ensures.runs_on

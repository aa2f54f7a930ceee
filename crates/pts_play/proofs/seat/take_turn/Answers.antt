use Rattle.std.proofs.Common.{sym, ◌∙◌}
use Rattle.pts_play.specs.Seats.{passed_over}
use Rattle.pts_play.proofs.Onward.{awaiting, call_was_made, asks_nothing}
use Rattle.pts_play.proofs.seat.take_turn.Goals as goal

pub returns-then-is_none : goal.returns-then-is_none
returns-then-is_none g c = record { turn = passed_over (asks_nothing c.args.seat.now.asked c.if-is_none.ensures); keeps = g.met.P.Core.Table.keeps_itself c.args.core.now }

pub hear-requires-clause-free : goal.hear-requires-clause-free
hear-requires-clause-free g c t out resumed =
    let asking = sym c.take.ensures.value ∙ c.in-Some.is in
    let waiting = awaiting {A = g.row.P-Answer.Denot} (g.P.Player.local c.args.world.now) (g.P.Player.resumes c.args.world.now) (g.P.Player.free c.args.world.now) (g.P.Player.awaits c.args.world.now) c.args.seat.now c.in-Some.request asking c.requires.rests in
    (g.met.P.Player.resumed c.args.world.now c.args.seat.now.player t c.args.number c.in-Some.request c.in_ok-answer.answer out c.args.core.now c.step.new.self c.requires.fits waiting c.in_ok-answer.ensures.steps resumed).0

pub returns : goal.returns
returns g c =
    let asking = sym c.take.ensures.value ∙ c.in-Some.is in
    let waiting = awaiting {A = g.row.P-Answer.Denot} (g.P.Player.local c.args.world.now) (g.P.Player.resumes c.args.world.now) (g.P.Player.free c.args.world.now) (g.P.Player.awaits c.args.world.now) c.args.seat.now c.in-Some.request asking c.requires.rests in
    let e = c.in_ok-hear.ensures in
    let w = e.resumed in
    let fit = (g.met.P.Player.resumed c.args.world.now c.args.seat.now.player w.0 c.args.number c.in-Some.request c.in_ok-answer.answer w.1 c.args.core.now c.step.new.self c.requires.fits waiting c.in_ok-answer.ensures.steps w.2).1 in
    record { turn = call_was_made (g.P.Player.local c.args.world.now) (g.P.Player.resumes c.args.world.now) g.P.Core.Table.steps (g.P.Player.free c.args.world.now) (g.P.Player.awaits c.args.world.now) (g.P.Player.fits c.args.world.now) c.args.number c.args.core.now c.step.new.self c.args.seat.now c.hear.new.seat c.take.new.self c.in-Some.request c.in_ok-answer.answer asking c.take.ensures.after c.in_ok-answer.ensures.steps e.hears e.rests (w.3 c.step.new.self fit) e.rank; keeps = c.step.ensures.keeps }

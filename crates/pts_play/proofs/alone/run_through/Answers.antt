use Rattle.std.proofs.Common.{subst}
use Rattle.pts_play.specs.Seats.{Turn}
use Rattle.pts_play.proofs.Through.{works_first, works_on, turn_rests, worked, may_go_on}
use Rattle.pts_play.proofs.alone.run_through.Goals as goal

pub loop-init : goal.loop-init
loop-init g c =
    let e = c.in_ok-run_on.ensures in
    record {
      rests = e.rests;
      fits = e.fits c.args.core.now c.requires.fits;
      works = works_first (g.P.Player.local c.args.world.now) (g.P.Player.resumes c.args.world.now) g.P.Core.Table.steps (g.P.Player.free c.args.world.now) (g.P.Player.awaits c.args.world.now) (g.P.Player.fits c.args.world.now) c.args.number c.args.core.now c.args.seat.now c.run_on.new.seat c.requires.clear e.runs_on;
      keeps = g.met.P.Core.Table.keeps_itself c.args.core.now;
    }

pub loop-preserved : goal.loop-preserved
loop-preserved g c =
    let i = c.loop.invariant in
    let turn = subst (λ b. Turn (g.P.Player.local c.args.world.now) (g.P.Player.resumes c.args.world.now) g.P.Core.Table.steps (g.P.Player.free c.args.world.now) (g.P.Player.awaits c.args.world.now) (g.P.Player.fits c.args.world.now) c.args.number c.loop.core c.loop.seat b c.take_turn.new.core c.take_turn.new.seat) c.if-branch.true c.in_ok-take_turn.ensures.turn in
    let k = turn_rests (g.P.Player.local c.args.world.now) (g.P.Player.resumes c.args.world.now) g.P.Core.Table.steps (g.P.Player.free c.args.world.now) (g.P.Player.awaits c.args.world.now) (g.P.Player.fits c.args.world.now) c.args.number c.loop.core c.take_turn.new.core c.loop.seat c.take_turn.new.seat turn in
    record {
      rests = k.0;
      fits = k.1;
      works = works_on (g.P.Player.local c.args.world.now) (g.P.Player.resumes c.args.world.now) g.P.Core.Table.steps (g.P.Player.free c.args.world.now) (g.P.Player.awaits c.args.world.now) (g.P.Player.fits c.args.world.now) c.args.number c.args.core.now c.loop.core c.take_turn.new.core c.args.seat.now c.loop.seat c.take_turn.new.seat turn i.works;
      keeps = g.met.P.Core.Table.keeps_on c.args.core.now c.loop.core c.take_turn.new.core i.keeps c.take_turn.ensures.keeps;
    }

pub returns : goal.returns
returns g c =
    let i = c.loop.invariant in
    let turn = subst (λ b. Turn (g.P.Player.local c.args.world.now) (g.P.Player.resumes c.args.world.now) g.P.Core.Table.steps (g.P.Player.free c.args.world.now) (g.P.Player.awaits c.args.world.now) (g.P.Player.fits c.args.world.now) c.args.number c.loop.core c.loop.seat b c.take_turn.new.core c.take_turn.new.seat) c.if-branch.false c.in_ok-take_turn.ensures.turn in
    let on = may_go_on (g.P.Player.local c.args.world.now) (g.P.Player.resumes c.args.world.now) g.P.Core.Table.steps (g.P.Player.free c.args.world.now) (g.P.Player.awaits c.args.world.now) (g.P.Player.fits c.args.world.now) c.args.number c.loop.core c.take_turn.new.core c.loop.seat c.take_turn.new.seat turn i.rests i.fits in
    record {
      ran = worked (g.P.Player.local c.args.world.now) (g.P.Player.resumes c.args.world.now) g.P.Core.Table.steps (g.P.Player.free c.args.world.now) (g.P.Player.awaits c.args.world.now) (g.P.Player.fits c.args.world.now) c.args.number c.args.core.now c.loop.core c.take_turn.new.core c.args.seat.now c.loop.seat c.take_turn.new.seat turn i.rests i.works;
      idle = on.0;
      free = on.1;
      fits = on.2;
      keeps = g.met.P.Core.Table.keeps_on c.args.core.now c.loop.core c.take_turn.new.core i.keeps c.take_turn.ensures.keeps;
    }

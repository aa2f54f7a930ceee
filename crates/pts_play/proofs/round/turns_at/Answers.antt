use Rattle.std.proofs.Common.{arith, ◌∷◌, ◌++◌, ℕ, List, ◌+◌, subst, sym, ◌≡◌, All, true}
use Rattle.pts_play.specs.Rounds.{OrderFrom}
use Rattle.pts_play.specs.Turns.{RisesFrom, Promises, is_waiting_at}
use Rattle.pts_play.proofs.Orders.{goes_taken, goes_passed, runs_on, promises_taken, rises_more, rises_later, rank_falls, ends_at, same_seats}
use Rattle.pts_play.proofs.round.turns_at.Goals as goal

pub loop-order-smaller : goal.loop-order-smaller
loop-order-smaller g c = rank_falls (g.P.Player.local c.args.world.now) (g.P.Player.resumes c.args.world.now) g.P.Core.Table.steps (g.P.Player.free c.args.world.now) (g.P.Player.awaits c.args.world.now) (g.P.Player.fits c.args.world.now) c.loop-order.core c.turn_at.new.core c.loop-order.seats c.turn_at.new.seats c.args.index c.in_ok-turn_at.field-0 c.in_ok-turn_at.ensures.turn c.if-branch.true

pub loop-order-preserved : goal.loop-order-preserved
loop-order-preserved g c =
    let i = c.loop-order.invariant in
    record {
      turned = runs_on (g.P.Player.local c.args.world.now) (g.P.Player.resumes c.args.world.now) g.P.Core.Table.steps (g.P.Player.free c.args.world.now) (g.P.Player.awaits c.args.world.now) (g.P.Player.fits c.args.world.now) _ _ _ _ _ _ _ _ _ i.turned (goes_taken (g.P.Player.local c.args.world.now) (g.P.Player.resumes c.args.world.now) g.P.Core.Table.steps (g.P.Player.free c.args.world.now) (g.P.Player.awaits c.args.world.now) (g.P.Player.fits c.args.world.now) (g.met.P.Player.others c.args.world.now) c.loop-order.core c.turn_at.new.core c.loop-order.seats c.turn_at.new.seats c.args.index (c.args.index + 1) c.in_ok-turn_at.field-0 c.loop-order.order.items c.push.new.self.items c.in_ok-turn_at.ensures.turn c.if-branch.true i.turned.rests i.turned.fit c.in_ok-push.ensures.items (omega arith));
      promises = λ numbers promised. promises_taken (g.P.Player.local c.args.world.now) (g.P.Player.resumes c.args.world.now) g.P.Core.Table.steps (g.P.Player.free c.args.world.now) (g.P.Player.awaits c.args.world.now) (g.P.Player.fits c.args.world.now) c.loop-order.core c.turn_at.new.core c.loop-order.seats c.turn_at.new.seats c.args.index (c.args.index + 1) c.in_ok-turn_at.field-0 c.loop-order.order.items c.push.new.self.items numbers (RisesFrom (c.args.index + 1)) (RisesFrom (c.args.index + 1)) c.in_ok-turn_at.ensures.turn c.if-branch.true c.in_ok-push.ensures.items (omega arith) (λ rest r. rises_more (g.P.Player.local c.args.world.now) (g.P.Player.resumes c.args.world.now) g.P.Core.Table.steps (g.P.Player.free c.args.world.now) (g.P.Player.awaits c.args.world.now) (g.P.Player.fits c.args.world.now) (c.args.index + 1) rest r) (i.promises numbers promised);
      keeps = g.met.P.Core.Table.keeps_on _ _ _ i.keeps c.turn_at.ensures.keeps;
    }

pub returns-clause-turned : goal.returns-clause-turned
returns-clause-turned g c =
    let i = c.loop-order.invariant in
    runs_on (g.P.Player.local c.args.world.now) (g.P.Player.resumes c.args.world.now) g.P.Core.Table.steps (g.P.Player.free c.args.world.now) (g.P.Player.awaits c.args.world.now) (g.P.Player.fits c.args.world.now) _ _ _ _ _ _ _ _ _ i.turned (goes_passed (g.P.Player.local c.args.world.now) (g.P.Player.resumes c.args.world.now) g.P.Core.Table.steps (g.P.Player.free c.args.world.now) (g.P.Player.awaits c.args.world.now) (g.P.Player.fits c.args.world.now) c.loop-order.core c.turn_at.new.core c.loop-order.seats c.turn_at.new.seats c.args.index c.in_ok-turn_at.field-0 c.loop-order.order.items c.in_ok-turn_at.ensures.turn c.if-branch.false i.turned.rests i.turned.fit)

pub returns-clause-promises : goal.returns-clause-promises
returns-clause-promises g c numbers promised rest all r =
    let same = same_seats (g.P.Player.local c.args.world.now) (g.P.Player.resumes c.args.world.now) g.P.Core.Table.steps (g.P.Player.free c.args.world.now) (g.P.Player.awaits c.args.world.now) (g.P.Player.fits c.args.world.now) c.loop-order.core c.turn_at.new.core c.loop-order.seats c.turn_at.new.seats c.args.index c.in_ok-turn_at.field-0 c.in_ok-turn_at.ensures.turn c.if-branch.false in
    c.loop-order.invariant.promises numbers promised rest (subst (λ xs. All (λ n. is_waiting_at xs n ≡ true) rest) same all) (r.0, λ k d small. let l = r.1 k d small in omega (arith, l))

pub returns-clause-ended : goal.returns-clause-ended
returns-clause-ended g c = ends_at (g.P.Player.local c.args.world.now) (g.P.Player.resumes c.args.world.now) g.P.Core.Table.steps (g.P.Player.free c.args.world.now) (g.P.Player.awaits c.args.world.now) (g.P.Player.fits c.args.world.now) c.loop-order.core c.turn_at.new.core c.loop-order.seats c.turn_at.new.seats c.args.index _ c.in_ok-turn_at.field-0 c.in_ok-turn_at.ensures.turn c.if-branch.false (omega arith)

pub returns-in_err-turn_at-clause-keeps : goal.returns-in_err-turn_at-clause-keeps
returns-in_err-turn_at-clause-keeps g c = g.met.P.Core.Table.keeps_on _ _ _ c.loop-order.invariant.keeps c.turn_at.ensures.keeps

pub returns-in_err-push-clause-keeps : goal.returns-in_err-push-clause-keeps
returns-in_err-push-clause-keeps g c = g.met.P.Core.Table.keeps_on _ _ _ c.loop-order.invariant.keeps c.turn_at.ensures.keeps

pub returns-clause-keeps : goal.returns-clause-keeps
returns-clause-keeps g c = g.met.P.Core.Table.keeps_on _ _ _ c.loop-order.invariant.keeps c.turn_at.ensures.keeps

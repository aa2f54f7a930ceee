use Rattle.std.proofs.Common.{arith, ◌∷◌}
use Rattle.pts_play.specs.Rounds.{OrderFrom, is_next}
use Rattle.pts_play.proofs.Orders.{goes_taken, goes_passed, promises_taken, promises_passed}
use Rattle.pts_play.proofs.round.turn_of.Goals as goal

pub returns-in_ok-push-clause-turned : goal.returns-in_ok-push-clause-turned
returns-in_ok-push-clause-turned g c = goes_taken (g.P.Player.local c.args.world.now) (g.P.Player.resumes c.args.world.now) g.P.Core.Table.steps (g.P.Player.free c.args.world.now) (g.P.Player.awaits c.args.world.now) (g.P.Player.fits c.args.world.now) (g.met.P.Player.others c.args.world.now) c.args.core.now c.turn_at.new.core c.args.seats.now c.turn_at.new.seats _ c.args.number c.in_ok-turn_at.field-0 c.args.order.now.items c.push.new.self.items c.in_ok-turn_at.ensures.turn c.if-branch.true c.requires.rests c.requires.fits c.in_ok-push.ensures.items (let k = c.requires.known.0 in omega (arith, k))

pub returns-else-branch-clause-turned : goal.returns-else-branch-clause-turned
returns-else-branch-clause-turned g c = goes_passed (g.P.Player.local c.args.world.now) (g.P.Player.resumes c.args.world.now) g.P.Core.Table.steps (g.P.Player.free c.args.world.now) (g.P.Player.awaits c.args.world.now) (g.P.Player.fits c.args.world.now) c.args.core.now c.turn_at.new.core c.args.seats.now c.turn_at.new.seats _ c.in_ok-turn_at.field-0 c.args.order.now.items c.in_ok-turn_at.ensures.turn c.if-branch.false c.requires.rests c.requires.fits

pub returns-in_ok-push-clause-promises : goal.returns-in_ok-push-clause-promises
returns-in_ok-push-clause-promises g c numbers left = promises_taken (g.P.Player.local c.args.world.now) (g.P.Player.resumes c.args.world.now) g.P.Core.Table.steps (g.P.Player.free c.args.world.now) (g.P.Player.awaits c.args.world.now) (g.P.Player.fits c.args.world.now) c.args.core.now c.turn_at.new.core c.args.seats.now c.turn_at.new.seats _ c.args.number c.in_ok-turn_at.field-0 c.args.order.now.items c.push.new.self.items numbers (OrderFrom (c.args.number ∷ left)) (OrderFrom left) c.in_ok-turn_at.ensures.turn c.if-branch.true c.in_ok-push.ensures.items (let k = c.requires.known.0 in omega (arith, k)) (λ rest should. is_next should)

pub returns-else-branch-clause-promises : goal.returns-else-branch-clause-promises
returns-else-branch-clause-promises g c numbers left = promises_passed (g.P.Player.local c.args.world.now) (g.P.Player.resumes c.args.world.now) g.P.Core.Table.steps (g.P.Player.free c.args.world.now) (g.P.Player.awaits c.args.world.now) (g.P.Player.fits c.args.world.now) c.args.core.now c.turn_at.new.core c.args.seats.now c.turn_at.new.seats _ c.args.number c.in_ok-turn_at.field-0 c.args.order.now.items numbers left c.in_ok-turn_at.ensures.turn c.if-branch.false (let k = c.requires.known.0 in omega (arith, k))

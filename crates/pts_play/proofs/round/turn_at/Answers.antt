use Rattle.std.proofs.Common.{refl, sym, ◌∙◌, Some, arith}
use Rattle.std.proofs.lemmas.Option.{slice_get-get_or}
use Rattle.pts_play.proofs.Seated.{rest_at, fit_at, seat_turn_ok}
use Rattle.pts_play.proofs.round.turn_at.Goals as goal

pub take_turn-requires-clause-rests : goal.take_turn-requires-clause-rests
take_turn-requires-clause-rests g c = rest_at (g.P.Player.local c.args.world.now) (g.P.Player.resumes c.args.world.now) g.P.Core.Table.steps (g.P.Player.free c.args.world.now) (g.P.Player.awaits c.args.world.now) (g.P.Player.fits c.args.world.now) c.args.seats.now c.args.index _ (slice_get-get_or c.args.seats.now c.args.index c.index-seats-index.result c.requires.known) c.requires.rests

pub take_turn-requires-clause-fits : goal.take_turn-requires-clause-fits
take_turn-requires-clause-fits g c = fit_at (g.P.Player.local c.args.world.now) (g.P.Player.resumes c.args.world.now) g.P.Core.Table.steps (g.P.Player.free c.args.world.now) (g.P.Player.awaits c.args.world.now) (g.P.Player.fits c.args.world.now) c.args.core.now c.args.seats.now c.args.index _ (slice_get-get_or c.args.seats.now c.args.index c.index-seats-index.result c.requires.known) c.requires.fits

pub returns : goal.returns
returns g c = record { turn = seat_turn_ok (g.P.Player.local c.args.world.now) (g.P.Player.resumes c.args.world.now) g.P.Core.Table.steps (g.P.Player.free c.args.world.now) (g.P.Player.awaits c.args.world.now) (g.P.Player.fits c.args.world.now) c.take_turn.result c.args.seats.now c.args.index _ _ c.take_turn.new.seat c.args.core.now c.take_turn.new.core (omega arith) (slice_get-get_or c.args.seats.now c.args.index c.index-seats-index.result c.requires.known) c.take_turn.ensures.turn; keeps = c.take_turn.ensures.keeps }

use Rattle.std.proofs.Common.{◌∙◌, ◌∷◌, ◌++◌, [], sym, ap, subst, arith, map}
use Rattle.std.specs.List.{AllByRecursion}
use Rattle.pts_play.specs.Rounds.{order_line, done_line}
use Rattle.pts_play.specs.Play.{full_line}
use Rattle.pts_play.specs.Turns.{replies_of}
use Rattle.pts_replay.proofs.Handing.{round_done, fit_same, same_length}
use Rattle.pts_replay.proofs.replay.round_of.Goals as goal

pub play_round-requires : goal.play_round-requires
play_round-requires g c =
    let same = c.in_ok-hand_out.ensures.players in
    let long = same_length c.args.seats.now c.hand_out.new.seats same in
    let all = c.requires.sessions in
    record {
      few = omega (arith, long, all);
      numbers = λ k d small. let s = c.requires.numbers k d small in let high = s.1 in (s.0, omega (arith, high, long, all));
      clear = c.in_ok-hand_out.ensures.clear;
      free = subst (AllByRecursion (g.P.Player.free c.args.world.now)) (sym same) c.requires.free;
      fits = fit_same (g.P.Player.fits c.args.world.now) c.args.core.now c.args.seats.now c.hand_out.new.seats same c.requires.fits;
    }

pub returns-clause-played : goal.returns-clause-played
returns-clause-played g c orders count =
    let seats = c.play_round.new.seats in
    let text = c.in_ok-printed.ensures.lines ∙ ap (λ o. map full_line (replies_of 1 seats ++ order_line o ∷ done_line c.args.number ∷ [])) c.as_slice.ensures.value in
    round_done (g.P.Player.local c.args.world.now) (g.P.Player.resumes c.args.world.now) g.P.Core.Table.steps c.args.lines.items c.args.numbers.now c.args.core.now c.play_round.new.core c.args.seats.now c.hand_out.new.seats seats c.close_round.new.seats c.in_ok-order.order.items c.args.number c.in_ok-printed.printed.items c.in_ok-hand_out.ensures.players c.close_round.ensures.players (c.in_ok-order.ensures.played c.args.lines.items c.in_ok-hand_out.ensures.lines) text orders count

pub returns-clause-free : goal.returns-clause-free
returns-clause-free g c = subst (AllByRecursion (g.P.Player.free c.args.world.now)) (sym c.close_round.ensures.players) c.in_ok-order.ensures.free

pub returns-clause-fits : goal.returns-clause-fits
returns-clause-fits g c = fit_same (g.P.Player.fits c.args.world.now) c.play_round.new.core c.play_round.new.seats c.close_round.new.seats c.close_round.ensures.players c.in_ok-order.ensures.fits

pub returns-in_err-hand_out-clause-keeps : goal.returns-in_err-hand_out-clause-keeps
returns-in_err-hand_out-clause-keeps g c = g.met.P.Core.Table.keeps_itself c.args.core.now

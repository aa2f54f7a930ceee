use Rattle.std.proofs.Common.{arith, ℕ, List, ◌+◌, ◌<◌, suc, length, drop, subst, sym, ap, ◌≡◌, ◌∙◌, ◌∷◌, ◌++◌, [], All, true, false, refl}
use Rattle.std.proofs.lemmas.List.{drop_more}
use Rattle.pts_play.specs.Rounds.{OrderFrom}
use Rattle.pts_play.specs.Turns.{Promises, RisesFrom, is_waiting_at}
use Rattle.pts_play.proofs.Orders.{ended_next}
use Rattle.pts_play.proofs.Closing.{drop_past, started_long, started_rest, started_fit, playing_none, promises_rising, all_ended, all_fresh, all_free, played}
use Rattle.pts_play.proofs.round.play_round.Goals as goal

pub start_all-requires : goal.start_all-requires
start_all-requires g c = record { fresh = all_fresh (g.P.Player.free c.args.world.now) c.args.seats.now c.requires.clear c.requires.free }

pub loop-number-init : goal.loop-number-init
loop-number-init g c =
    let s = c.in_ok-start_all.ensures.started in
    record {
      playing = playing_none (g.P.Player.local c.args.world.now) (g.P.Player.resumes c.args.world.now) g.P.Core.Table.steps (g.P.Player.free c.args.world.now) (g.P.Player.awaits c.args.world.now) (g.P.Player.fits c.args.world.now) c.args.core.now c.args.seats.now c.start_all.new.seats c.new-order.result.items c.new-order.ensures.items (all_fresh (g.P.Player.free c.args.world.now) c.args.seats.now c.requires.clear c.requires.free) s;
      long = started_long (g.P.Player.local c.args.world.now) (g.P.Player.resumes c.args.world.now) g.P.Core.Table.steps (g.P.Player.free c.args.world.now) (g.P.Player.awaits c.args.world.now) (g.P.Player.fits c.args.world.now) c.args.seats.now c.start_all.new.seats s;
      rest = started_rest (g.P.Player.local c.args.world.now) (g.P.Player.resumes c.args.world.now) g.P.Core.Table.steps (g.P.Player.free c.args.world.now) (g.P.Player.awaits c.args.world.now) (g.P.Player.fits c.args.world.now) c.args.seats.now c.start_all.new.seats s;
      fit = started_fit (g.P.Player.local c.args.world.now) (g.P.Player.resumes c.args.world.now) g.P.Core.Table.steps (g.P.Player.free c.args.world.now) (g.P.Player.awaits c.args.world.now) (g.P.Player.fits c.args.world.now) c.args.core.now c.args.seats.now c.start_all.new.seats s c.requires.fits;
      promises = λ rest all made_from. subst (λ o. OrderFrom c.args.numbers.now (o ++ rest)) (sym c.new-order.ensures.items) made_from;
      keeps = g.met.P.Core.Table.keeps_itself c.args.core.now;
    }

pub loop-number-preserved : goal.loop-number-preserved
loop-number-preserved g c =
    let i = c.loop-number.invariant in
    let e = c.in_ok-turn_of.ensures in
    record {
      playing = e.turned.plays c.args.core.now c.args.seats.now i.playing;
      long = e.turned.long ∙ i.long;
      rest = e.turned.rests;
      fit = e.turned.fit;
      promises = e.promises c.args.numbers.now _ (λ rest all made_from. i.promises rest all (subst (λ xs. OrderFrom xs rest) (sym (drop_more c.args.numbers.now c.loop-number.number-index 0 c.loop-number-test.true)) made_from));
      keeps = g.met.P.Core.Table.keeps_on _ _ _ i.keeps c.turn_of.ensures.keeps;
    }

pub loop-index-init : goal.loop-index-init
loop-index-init g c =
    let i = c.loop-number.invariant in
    record {
      playing = i.playing;
      long = i.long;
      rest = i.rest;
      fit = i.fit;
      promises = promises_rising c.args.numbers.now _ c.loop-number.seats c.loop-number.order.items (drop_past c.args.numbers.now c.loop-number.number-index (let b = c.loop-number-test.false in omega (arith, b))) i.promises;
      ended = λ k small. absurd (omega (arith, small));
      keeps = i.keeps;
    }

pub loop-index-preserved : goal.loop-index-preserved
loop-index-preserved g c =
    let i = c.loop-index.invariant in
    let e = c.in_ok-turns_at.ensures in
    record {
      playing = e.turned.plays c.args.core.now c.args.seats.now i.playing;
      long = e.turned.long ∙ i.long;
      rest = e.turned.rests;
      fit = e.turned.fit;
      promises = λ rest all r. e.promises c.args.numbers.now i.promises rest all (r.0, λ k d small. let l = r.1 k d small in omega (arith, l));
      ended = ended_next c.turns_at.new.seats c.loop-index.index _ (omega arith) (λ k small. e.turned.ended (suc k) (i.ended k small)) e.ended;
      keeps = g.met.P.Core.Table.keeps_on _ _ _ i.keeps c.turns_at.ensures.keeps;
    }

pub returns : goal.returns
returns g c =
    let i = c.loop-index.invariant in
    let ended = all_ended c.loop-index.seats (λ k small. i.ended k (let b = c.loop-index-test.false in let l = i.long in omega (arith, b, l, small))) in
    record {
      played = λ lines have. played (g.P.Player.local c.args.world.now) (g.P.Player.resumes c.args.world.now) g.P.Core.Table.steps (g.P.Player.free c.args.world.now) (g.P.Player.awaits c.args.world.now) (g.P.Player.fits c.args.world.now) lines c.args.numbers.now _ c.args.core.now c.loop-index.core c.args.seats.now c.loop-index.seats c.loop-index.order.items have i.long ended i.rest i.promises i.playing;
      idle = ended;
      free = all_free (g.P.Player.local c.args.world.now) (g.P.Player.resumes c.args.world.now) g.P.Core.Table.steps (g.P.Player.free c.args.world.now) (g.P.Player.awaits c.args.world.now) (g.P.Player.fits c.args.world.now) c.loop-index.seats ended i.rest;
      fits = i.fit;
      keeps = i.keeps;
    }

pub returns-in_err-start_all-clause-keeps : goal.returns-in_err-start_all-clause-keeps
returns-in_err-start_all-clause-keeps g c = g.met.P.Core.Table.keeps_itself c.args.core.now

pub returns-in_err-turn_of-clause-keeps : goal.returns-in_err-turn_of-clause-keeps
returns-in_err-turn_of-clause-keeps g c = g.met.P.Core.Table.keeps_on _ _ _ c.loop-number.invariant.keeps c.turn_of.ensures.keeps

pub returns-in_err-turns_at-clause-keeps : goal.returns-in_err-turns_at-clause-keeps
returns-in_err-turns_at-clause-keeps g c = g.met.P.Core.Table.keeps_on _ _ _ c.loop-index.invariant.keeps c.turns_at.ensures.keeps

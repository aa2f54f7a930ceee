use Rattle.std.proofs.Common.{◌∙◌, sym, subst, refl}
use Rattle.pts_replay.specs.Lines.{HasForm, input_of}
use Rattle.pts_replay.proofs.Replying.{is_session, takes_numbers, adds, runs, ends, refuses}
use Rattle.pts_replay.proofs.reply.answer_line.Goals as goal

pub add_line-requires : goal.add_line-requires
add_line-requires g c = record { session = is_session c.args.numbered c.args.line.now c.in-Line.session c.in-Line.text (subst (λ a. HasForm c.args.numbered c.args.line.now (input_of a)) c.in-Line.is c.in_ok-asked.ensures) }

pub run_round-requires-clause-numbers : goal.run_round-requires-clause-numbers
run_round-requires-clause-numbers g c =
    subst g.G.Game.takes (sym c.as_slice.ensures.value)
    (takes_numbers g.G.Game.takes c.args.numbered c.args.line.now c.in-Go.numbers.items g.met.G.Game.takes_none c.requires.numbers (subst (λ a. HasForm c.args.numbered c.args.line.now (input_of a)) c.in-Go.is c.in_ok-asked.ensures))

pub returns-in_ok-add_line-in-Line-clause-leads : goal.returns-in_ok-add_line-in-Line-clause-leads
returns-in_ok-add_line-in-Line-clause-leads g c =
    adds (g.G.Game.rounds c.args.world.now) c.args.numbered c.args.number c.args.line.now (g.G.Game.state c.args.game.now) (g.G.Game.state c.add_line.new.self) _ _ c.in-Line.session c.in-Line.text
    (subst (λ a. HasForm c.args.numbered c.args.line.now (input_of a)) c.in-Line.is c.in_ok-asked.ensures) (g.met.G.Game.has_sessions c.args.world.now c.args.game.now c.requires.ready) c.in_ok-add_line-in-Line.ensures.added (c.reply_of.ensures.lines ∙ c.new.ensures.items) c.reply_of.ensures.goes_on

pub returns-in_ok-round-in-Go-clause-leads : goal.returns-in_ok-round-in-Go-clause-leads
returns-in_ok-round-in-Go-clause-leads g c =
    let played = c.in_ok-round-in-Go.ensures.played in
    let numbers = c.as_slice.ensures.value in
    runs (g.G.Game.rounds c.args.world.now) c.args.numbered c.args.number c.args.line.now (g.G.Game.state c.args.game.now) (g.G.Game.state c.run_round.new.self) _ c.in_ok-round-in-Go.round.items _ c.in-Go.numbers.items played.0
    (subst (λ a. HasForm c.args.numbered c.args.line.now (input_of a)) c.in-Go.is c.in_ok-asked.ensures) c.reply_of-in-Go.ensures.lines played.1 (subst (λ ns. g.G.Game.rounds c.args.world.now (g.G.Game.state c.args.game.now) ns played.0 (g.G.Game.state c.run_round.new.self)) numbers played.2) c.reply_of-in-Go.ensures.goes_on

pub returns-in_ok-last-in-End-clause-leads : goal.returns-in_ok-last-in-End-clause-leads
returns-in_ok-last-in-End-clause-leads g c =
    let rest = c.in_ok-last-in-End.ensures.rest in
    ends (g.G.Game.rounds c.args.world.now) c.args.numbered c.args.number c.args.line.now (g.G.Game.state c.args.game.now) (g.G.Game.state c.last_round.new.game) _ c.in_ok-last-in-End.last.items _ rest.0
    (subst (λ a. HasForm c.args.numbered c.args.line.now (input_of a)) c.in-End.is c.in_ok-asked.ensures) c.last_of.ensures.lines rest.1 (rest.2 c.args.numbered) c.last_of.ensures.ends

pub returns-in_ok-refused-in-Unknown-clause-leads : goal.returns-in_ok-refused-in-Unknown-clause-leads
returns-in_ok-refused-in-Unknown-clause-leads g c =
    refuses (g.G.Game.rounds c.args.world.now) c.args.numbered c.args.number c.args.line.now (g.G.Game.state c.args.game.now) (g.G.Game.state c.args.game.now) _ c.in_ok-refused-in-Unknown.refused.items _
    (subst (λ a. HasForm c.args.numbered c.args.line.now (input_of a)) c.in-Unknown.is c.in_ok-asked.ensures) c.reply_of-in-Unknown.ensures.lines c.in_ok-refused-in-Unknown.ensures refl c.reply_of-in-Unknown.ensures.goes_on

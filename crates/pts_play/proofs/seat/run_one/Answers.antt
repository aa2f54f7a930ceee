use Rattle.std.proofs.Common.{subst, sym, ◌≡◌, ◌∙◌, ap, get_or}
use Rattle.pts_play.specs.Seen.{outcome_of}
use Rattle.pts_play.proofs.Onward.{line_was_run_ok}
use Rattle.pts_play.proofs.seat.run_one.Goals as goal

pub returns-clause-runs_on : goal.returns-clause-runs_on
returns-clause-runs_on g c =
    let local = c.in_ok-local.ensures in
    line_was_run_ok (g.P.Player.local c.args.world.now) (g.P.Player.resumes c.args.world.now) c.note.result c.args.seat.now c.note.new.seat c.text.result.now c.in_ok-local.local c.requires.idle c.requires.some (c.text.ensures ∙ c.index.ensures ∙ ap (get_or c.args.seat.now.lines.items c.args.seat.now.next) (sym c.text.ensures)) (subst (λ p. (g.P.Player.local c.args.world.now) c.args.seat.now.player c.text.result.now (outcome_of c.in_ok-local.local p)) (sym c.note.ensures.player) local) c.note.ensures.lines c.note.ensures.next c.note.ensures.replies c.note.ensures.asked

use Rattle.std.proofs.Common.{refl, ap, ◌∙◌, subst}
use Rattle.pts_core.specs.Histories.{replay}
use Rattle.pts_session.specs.Lines.{ComesTo}
use Rattle.pts_session.specs.Seen.{came_to, awaited_by}
use Rattle.pts_session.proofs.Ran as ran
use Rattle.pts_session.proofs.session.Session.run_line.Goals as goal

pub returns-in-Done-clause-ran : goal.returns-in-Done-clause-ran
returns-in-Done-clause-ran g c =
    let S = c.args.world.now.system in
    let s = c.args.self.now in
    let t = c.run_local.new.self in
    ran.done_ran S s t c.args.text.now c.in-Done.lines.items
    (subst (λ x. ComesTo S s.state c.args.text.now (came_to x t.state)) c.in-Done.is c.in_ok-lines.ensures.line) c.in_ok-lines.ensures.system (c.in_ok-lines.ensures.awaits ∙ ap awaited_by c.in-Done.is)
    (g.P.Port.session c.args.port.now) (g.P.Port.may_come c.args.port.now) (g.P.Port.history c.args.port.now) (g.P.Port.history c.args.port.now) refl

pub returns-in-Done-clause-fits : goal.returns-in-Done-clause-fits
returns-in-Done-clause-fits g c =
    let S = c.args.world.now.system in
    let s = c.args.self.now in
    let t = c.run_local.new.self in
    ran.done_fits S s t c.args.text.now c.in-Done.lines.items
    (subst (λ x. ComesTo S s.state c.args.text.now (came_to x t.state)) c.in-Done.is c.in_ok-lines.ensures.line) c.in_ok-lines.ensures.system (c.in_ok-lines.ensures.awaits ∙ ap awaited_by c.in-Done.is)
    (g.P.Port.system c.args.port.now) (replay (g.P.Port.history c.args.port.now)) c.requires.fits

pub resume-requires-clause-answer : goal.resume-requires-clause-answer
resume-requires-clause-answer g c =
    let S = c.args.world.now.system in
    let s = c.args.self.now in
    let t = c.run_local.new.self in
    (ran.may_hear S s t c.args.text.now c.in-Ask.request
    (subst (λ x. ComesTo S s.state c.args.text.now (came_to x t.state)) c.in-Ask.is c.in_ok-lines.ensures.line) c.in_ok-lines.ensures.system (c.in_ok-lines.ensures.awaits ∙ ap awaited_by c.in-Ask.is)
    c.requires.free (g.P.Port.system c.args.port.now) (replay (g.P.Port.history c.args.port.now)) c.requires.fits
    c.in_ok-answer-in-Ask.answer (replay (g.P.Port.history c.ask_port.new.port)) c.in_ok-answer-in-Ask.ensures.answers).1

pub ask_port-requires-clause-may : goal.ask_port-requires-clause-may
ask_port-requires-clause-may g c =
    let S = c.args.world.now.system in
    let s = c.args.self.now in
    let t = c.run_local.new.self in
    ran.may_put S s t c.args.text.now c.in-Ask.request
    (subst (λ x. ComesTo S s.state c.args.text.now (came_to x t.state)) c.in-Ask.is c.in_ok-lines.ensures.line) c.in_ok-lines.ensures.system (c.in_ok-lines.ensures.awaits ∙ ap awaited_by c.in-Ask.is)
    c.requires.free (g.P.Port.system c.args.port.now) (replay (g.P.Port.history c.args.port.now)) c.requires.fits

pub returns-in_ok-resume-in-Ask-clause-ran : goal.returns-in_ok-resume-in-Ask-clause-ran
returns-in_ok-resume-in-Ask-clause-ran g c =
    let S = c.args.world.now.system in
    let s = c.args.self.now in
    let t = c.run_local.new.self in
    ran.asked_ran S s t c.args.text.now c.in-Ask.request
    (subst (λ x. ComesTo S s.state c.args.text.now (came_to x t.state)) c.in-Ask.is c.in_ok-lines.ensures.line) c.in_ok-lines.ensures.system (c.in_ok-lines.ensures.awaits ∙ ap awaited_by c.in-Ask.is)
    c.requires.free (g.P.Port.system c.args.port.now) (replay (g.P.Port.history c.args.port.now)) c.requires.fits
    c.in_ok-answer-in-Ask.answer (replay (g.P.Port.history c.ask_port.new.port)) c.in_ok-answer-in-Ask.ensures.answers
    c.resume.new.self c.in_ok-resume-in-Ask.field-0.items c.in_ok-resume-in-Ask.ensures.hears
    (g.P.Port.session c.args.port.now) (g.P.Port.may_come c.args.port.now) (g.P.Port.history c.args.port.now) (g.P.Port.history c.ask_port.new.port) c.in_ok-answer-in-Ask.ensures.answered

pub returns-in_ok-resume-in-Ask-clause-fits : goal.returns-in_ok-resume-in-Ask-clause-fits
returns-in_ok-resume-in-Ask-clause-fits g c =
    let S = c.args.world.now.system in
    let s = c.args.self.now in
    let t = c.run_local.new.self in
    (ran.heard S s t c.args.text.now c.in-Ask.request
    (subst (λ x. ComesTo S s.state c.args.text.now (came_to x t.state)) c.in-Ask.is c.in_ok-lines.ensures.line) c.in_ok-lines.ensures.system (c.in_ok-lines.ensures.awaits ∙ ap awaited_by c.in-Ask.is)
    c.requires.free (g.P.Port.system c.args.port.now) (replay (g.P.Port.history c.args.port.now)) c.requires.fits
    c.in_ok-answer-in-Ask.answer (replay (g.P.Port.history c.ask_port.new.port)) c.in_ok-answer-in-Ask.ensures.answers
    c.resume.new.self c.in_ok-resume-in-Ask.field-0.items c.in_ok-resume-in-Ask.ensures.hears
    (g.P.Port.system c.ask_port.new.port) c.ask_port.ensures.system).1

pub returns-in_err-lines-clause-refused : goal.returns-in_err-lines-clause-refused
returns-in_err-lines-clause-refused g c =
    ran.nothing_asked c.args.world.now.system c.args.self.now c.run_local.new.self c.args.text.now (g.P.Port.session c.args.port.now) (g.P.Port.may_come c.args.port.now) (g.P.Port.history c.args.port.now) (g.P.Port.history c.args.port.now)
    c.from_residual.result c.from_residual.ensures.1 refl

pub returns-in_err-answer-in-Ask-clause-refused : goal.returns-in_err-answer-in-Ask-clause-refused
returns-in_err-answer-in-Ask-clause-refused g c =
    let S = c.args.world.now.system in
    let s = c.args.self.now in
    let t = c.run_local.new.self in
    ran.not_answered S s t c.args.text.now (g.P.Port.session c.args.port.now) (g.P.Port.may_come c.args.port.now) (g.P.Port.history c.args.port.now) (g.P.Port.history c.ask_port.new.port)
    c.from_residual-in_err-answer-in-Ask.result c.in-Ask.request
    (subst (λ x. ComesTo S s.state c.args.text.now (came_to x t.state)) c.in-Ask.is c.in_ok-lines.ensures.line)
    c.in_err-answer-in-Ask.field-0.0 c.from_residual-in_err-answer-in-Ask.ensures.1 c.in_err-answer-in-Ask.ensures.refused

pub returns-in_err-resume-in-Ask-clause-refused : goal.returns-in_err-resume-in-Ask-clause-refused
returns-in_err-resume-in-Ask-clause-refused g c =
    let S = c.args.world.now.system in
    let s = c.args.self.now in
    let t = c.run_local.new.self in
    ran.replies_lost S s t c.args.text.now (g.P.Port.session c.args.port.now) (g.P.Port.may_come c.args.port.now) (g.P.Port.history c.args.port.now) (g.P.Port.history c.ask_port.new.port)
    c.from_residual-in_err-resume-in-Ask.result c.in-Ask.request
    (subst (λ x. ComesTo S s.state c.args.text.now (came_to x t.state)) c.in-Ask.is c.in_ok-lines.ensures.line)
    c.in_ok-answer-in-Ask.answer c.from_residual-in_err-resume-in-Ask.ensures.1 c.in_ok-answer-in-Ask.ensures.answered

use Rattle.pts_session.proofs.Answering.{port_answers}
use Rattle.pts_session.proofs.asking.ask_port.Goals as goal

pub returns-clause-answers : goal.returns-clause-answers
returns-clause-answers g c =
    port_answers (g.P.Port.system c.args.port.now) (g.P.Port.system c.call.new.port) (g.P.Port.session c.args.port.now) (g.P.Port.may_come c.args.port.now) c.args.request c.in_ok-answer.answer (g.P.Port.history c.args.port.now) (g.P.Port.history c.call.new.port)
    c.call.ensures.system c.in_ok-answer.ensures.answered c.is_legal.ensures

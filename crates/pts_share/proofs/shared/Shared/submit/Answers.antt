use Rattle.std.proofs.Common.{refl}
use Rattle.pts_core.specs.Cores.{submitted}
use Rattle.pts_share.specs.Passes.{HasTurn, history_of}
use Rattle.pts_share.specs.Sharing.{system_of, table_of}
use Rattle.pts_share.proofs.Asking.{grows, may_submit}
use Rattle.pts_share.proofs.shared.Shared.submit.Goals as goal

pub answer_submit-answer-requires : goal.answer_submit-answer-requires
answer_submit-answer-requires g c = record {
  may = may_submit (system_of c.args.self.now) c.args.pass.now.owner (history_of c.args.pass.now) c.args.examined c.take-core.result c.requires.system c.take-core.ensures.system c.requires.front c.take-core.ensures.goes_on c.is_legal.ensures;
}

pub put-requires-clause-turn : goal.put-requires-clause-turn
put-requires-clause-turn g c =
    let pass = c.take-core.new.pass in
    grows (submitted pass.owner c.args.examined) c.take-core.result.history c.answer_submit-answer.new.self.history (HasTurn (table_of c.args.self.now) (system_of c.args.self.now)) pass c.answer_submit-answer.result
    c.take-core.ensures.turn (λ F. refl) c.answer_submit-answer.ensures.answered c.answer_submit-answer.ensures.refused

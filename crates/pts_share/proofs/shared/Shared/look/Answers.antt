use Rattle.std.proofs.Common.{refl}
use Rattle.pts_core.specs.Histories.{look}
use Rattle.pts_share.specs.Passes.{HasTurn}
use Rattle.pts_share.specs.Sharing.{system_of, table_of}
use Rattle.pts_share.proofs.Asking.{grows}
use Rattle.pts_share.proofs.shared.Shared.look.Goals as goal

pub put-requires-clause-turn : goal.put-requires-clause-turn
put-requires-clause-turn g c =
    let pass = c.take-core.new.pass in
    grows (look pass.owner) c.take-core.result.history c.answer_look-answer.new.self.history (HasTurn (table_of c.args.self.now) (system_of c.args.self.now)) pass c.answer_look-answer.result
    c.take-core.ensures.turn (λ F. refl) c.answer_look-answer.ensures.answered c.answer_look-answer.ensures.refused

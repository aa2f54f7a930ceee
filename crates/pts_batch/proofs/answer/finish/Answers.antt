use Rattle.std.proofs.Common.{◌≡◌, ◌<◌, length, arith}
use Rattle.std.proofs.lemmas.Result.{IfOk-weaker}
use Rattle.std.specs.Prelude.{codes}
use Rattle.pts_batch.specs.Batches.{refusal, with_entries}
use Rattle.pts_batch.specs.Shown.{answer_seen}
use Rattle.pts_batch.proofs.Room.{too_many}
use Rattle.pts_batch.proofs.answer.finish.Goals as goal

pub returns-then-len-gt-ROOM-clause-answer : goal.returns-then-len-gt-ROOM-clause-answer
returns-then-len-gt-ROOM-clause-answer c =
    let sorts = c.args.system.now.sorts in
    let M = c.args.name.now in
    let G = c.args.loading.context.entries in
    let h : 200000 < length G = omega (arith, c.len.ensures, c.if-len-gt-ROOM.true) in
    IfOk-weaker c.refusal.result (λ r. answer_seen r ≡ refusal M (codes "ContextFull 0")) (λ r. answer_seen r ≡ with_entries sorts M G) (λ r e. too_many sorts M G (answer_seen r) h e) c.refusal.ensures.answer

use Rattle.pts_batch.specs.Shown.{answer_seen}
use Rattle.yarrow.proofs.BatchEnds.{module_answered, module_unanswered, entered_legal, none_entered_legal}
use Rattle.yarrow.proofs.batch.batch_module.Goals as goal

pub returns-in-Ok-clause-prints : goal.returns-in-Ok-clause-prints
returns-in-Ok-clause-prints g c =
    module_answered c.args.system c.args.name.now c.args.bytes.now (g.K.Sink.state c.args.sink.now) (g.K.Sink.state c.print_batch.new.sink) c.print_batch.result.status (answer_seen c.in-Ok.batch) c.in-Ok.batch.units c.print_batch.result.context.entries c.print_batch.result.context.labels
    c.in-Ok.ensures.answer c.print_batch.ensures.context c.print_batch.ensures.labels c.print_batch.ensures.prints

pub returns-in-Ok-clause-legal : goal.returns-in-Ok-clause-legal
returns-in-Ok-clause-legal g c = entered_legal c.args.system c.print_batch.result.context.entries c.in-Ok.batch.context.entries c.print_batch.ensures.context c.in-Ok.ensures.legal

pub returns-in-Err-clause-prints : goal.returns-in-Err-clause-prints
returns-in-Err-clause-prints g c =
    module_unanswered c.args.system c.args.name.now c.args.bytes.now (g.K.Sink.state c.args.sink.now) c.without_memory.result.status c.without_memory.result.context.entries c.without_memory.result.context.labels
    c.without_memory.ensures.status c.without_memory.ensures.context c.without_memory.ensures.labels

pub returns-in-Err-clause-legal : goal.returns-in-Err-clause-legal
returns-in-Err-clause-legal g c = none_entered_legal c.args.system c.without_memory.result.context.entries c.without_memory.ensures.context

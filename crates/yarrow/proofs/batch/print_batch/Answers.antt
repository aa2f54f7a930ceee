use Rattle.std.proofs.Common.{◌∙◌, ap, Err}
use Rattle.pts_batch.specs.Shown.{answer_seen}
use Rattle.yarrow.specs.Batches.{done_line}
use Rattle.yarrow.proofs.BatchEnds.{lines_failed, lines_unmade, refused_end, done_end, done_unmade}
use Rattle.yarrow.proofs.batch.print_batch.Goals as goal

pub returns-in-Err-WriteFailed-clause-prints : goal.returns-in-Err-WriteFailed-clause-prints
returns-in-Err-WriteFailed-clause-prints g c =
    lines_failed (answer_seen c.args.batch) (g.K.Sink.state c.args.sink.now) (g.K.Sink.state c.print_lines.new.sink) c.ended.result.status c.items.result.now c.items.ensures
    c.ended.ensures.status (c.print_lines.ensures.write_failed (c.in-Err-WriteFailed.is ∙ ap Err c.in-Err-WriteFailed.field-0-is))

pub returns-in-Err-NoMemory-clause-prints : goal.returns-in-Err-NoMemory-clause-prints
returns-in-Err-NoMemory-clause-prints g c =
    lines_unmade (answer_seen c.args.batch) (g.K.Sink.state c.args.sink.now) (g.K.Sink.state c.print_lines.new.sink) c.ended-in-Err-NoMemory.result.status c.items.result.now c.items.ensures
    c.ended-in-Err-NoMemory.ensures.status (c.print_lines.ensures.no_memory (c.in-Err-NoMemory.is ∙ ap Err c.in-Err-NoMemory.field-0-is))

pub returns-then-refused-clause-prints : goal.returns-then-refused-clause-prints
returns-then-refused-clause-prints g c =
    refused_end (answer_seen c.args.batch) (g.K.Sink.state c.args.sink.now) (g.K.Sink.state c.print_lines.new.sink) c.ended-then-refused.result.status c.items.result.now c.items.ensures
    c.if-refused.true c.ended-then-refused.ensures.status c.in-Ok.ensures.whole

pub returns-in-Ok-done_line-clause-prints : goal.returns-in-Ok-done_line-clause-prints
returns-in-Ok-done_line-clause-prints g c =
    done_end (answer_seen c.args.batch) (g.K.Sink.state c.args.sink.now) (g.K.Sink.state c.print_lines.new.sink) c.printed.result.status c.items.result.now c.items.ensures
    (g.K.Sink.state c.printed.new.sink) c.as_bytes.result.now
    c.if-refused.false (c.as_bytes.ensures.value ∙ (c.in-Ok-done_line.ensures ∙ ap done_line c.len.ensures)) c.in-Ok.ensures.whole c.printed.ensures.status

pub returns-clause-prints : goal.returns-clause-prints
returns-clause-prints g c =
    done_unmade (answer_seen c.args.batch) (g.K.Sink.state c.args.sink.now) (g.K.Sink.state c.print_lines.new.sink) c.ended-in-Err.result.status c.items.result.now c.items.ensures
    c.ended-in-Err.ensures.status c.in-Ok.ensures.whole

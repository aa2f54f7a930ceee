use Rattle.std.proofs.Common.{◌≡◌, refl, ◌∙◌, ap, sym, Err, vec_len, arith}
use Rattle.yarrow.proofs.RunEnds.{failed_run, long_run, memory_run, answered_run}
use Rattle.yarrow.proofs.run.run_check.Goals as goal

pub returns-in-Err-Failed-clause-check : goal.returns-in-Err-Failed-clause-check
returns-in-Err-Failed-clause-check g c =
    let is = c.in-Err-Failed.is ∙ ap Err c.in-Err-Failed.field-0-is in
    let (n, few, given, left) = c.read_whole.ensures.moved (λ h. cc (sym is ∙ h)) in
    failed_run (g.S.Source.state c.args.source.now) _ (g.K.Sink.state c.args.sink.now) c.printed.result.status (g.K.Sink.state c.printed.new.sink) c.printed.result.context.entries c.printed.result.context.labels n few given (c.read_whole.ensures.failed is) (c.printed.ensures.context ∙ c.new.ensures.entries) (c.printed.ensures.labels ∙ c.new.ensures.labels) c.printed.ensures.status

pub returns-in-Err-TooMuch-clause-check : goal.returns-in-Err-TooMuch-clause-check
returns-in-Err-TooMuch-clause-check g c =
    let is = c.in-Err-TooMuch.is ∙ ap Err c.in-Err-TooMuch.field-0-is in
    long_run (g.S.Source.state c.args.source.now) _ (g.K.Sink.state c.args.sink.now) c.printed-in-Err-TooMuch.result.status (g.K.Sink.state c.printed-in-Err-TooMuch.new.sink) c.printed-in-Err-TooMuch.result.context.entries c.printed-in-Err-TooMuch.result.context.labels (c.read_whole.ensures.too_much_given is, c.read_whole.ensures.too_much_faults is) (c.read_whole.ensures.too_much_left is) (c.printed-in-Err-TooMuch.ensures.context ∙ c.new-in-Err-TooMuch.ensures.entries) (c.printed-in-Err-TooMuch.ensures.labels ∙ c.new-in-Err-TooMuch.ensures.labels) c.printed-in-Err-TooMuch.ensures.status

pub returns-in-Err-Memory-clause-check : goal.returns-in-Err-Memory-clause-check
returns-in-Err-Memory-clause-check g c =
    let is = c.in-Err-Memory.is ∙ ap Err c.in-Err-Memory.field-0-is in
    let (n, few, given, left) = c.read_whole.ensures.moved (λ h. cc (sym is ∙ h)) in
    memory_run (g.S.Source.state c.args.source.now) _ (g.K.Sink.state c.args.sink.now) c.without_memory.result.status c.without_memory.result.context.entries c.without_memory.result.context.labels n few given c.without_memory.ensures.status c.without_memory.ensures.context c.without_memory.ensures.labels

pub returns-in-Err-clause-check : goal.returns-in-Err-clause-check
returns-in-Err-clause-check g c =
    memory_run (g.S.Source.state c.args.source.now) _ (g.K.Sink.state c.args.sink.now) c.without_memory-in-Err.result.status c.without_memory-in-Err.result.context.entries c.without_memory-in-Err.result.context.labels (vec_len c.in-Ok.bytes) c.in-Ok.ensures.within c.in-Ok.ensures.given c.without_memory-in-Err.ensures.status c.without_memory-in-Err.ensures.context c.without_memory-in-Err.ensures.labels

pub returns-clause-check : goal.returns-clause-check
returns-clause-check g c =
    answered_run (g.S.Source.state c.args.source.now) _ (g.K.Sink.state c.args.sink.now) c.printed-in-Ok-answer_to.result.status (g.K.Sink.state c.printed-in-Ok-answer_to.new.sink) c.in-Ok-answer_to.answer.status c.printed-in-Ok-answer_to.result.context.entries c.printed-in-Ok-answer_to.result.context.labels c.as_bytes.result.now c.as_slice.result.now c.in-Ok.bytes.items (vec_len c.in-Ok.bytes)
    c.as_slice.ensures.value
    (omega (arith, c.in-Ok.bytes.ok.0))
    c.in-Ok.ensures.within
    c.in-Ok.ensures.given
    c.in-Ok.ensures.faults
    c.in-Ok.ensures.read
    c.in-Ok.ensures.end
    c.in-Ok-answer_to.ensures.status
    (c.as_bytes.ensures.value ∙ c.in-Ok-answer_to.ensures.line)
    (c.printed-in-Ok-answer_to.ensures.context ∙ c.in-Ok-answer_to.ensures.entries)
    (c.printed-in-Ok-answer_to.ensures.labels ∙ c.in-Ok-answer_to.ensures.labels)
    c.printed-in-Ok-answer_to.ensures.status

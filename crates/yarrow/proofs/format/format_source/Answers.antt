use Rattle.std.proofs.Common.{refl}
use Rattle.yarrow.proofs.FormatEnds.{whole_end, memory_end, write_failed_end, read_failed_end, too_long_end}
use Rattle.yarrow.proofs.format.format_source.Goals as goal

pub returns-in-Whole-clause-format : goal.returns-in-Whole-clause-format
returns-in-Whole-clause-format g c =
    let n = c.in-Whole.ensures in
    whole_end _ _ _ (g.K.Sink.state c.args.sink.now) (g.K.Sink.state c.format_lines.new.sink) c.finished.result.status c.finished.ensures.status (n.reads (λ h. cc h)) (n.writes (λ h. cc h)) (n.end refl) n.lines

pub returns-in-ReadFailed-clause-format : goal.returns-in-ReadFailed-clause-format
returns-in-ReadFailed-clause-format g c =
    let n = c.in-ReadFailed.ensures in
    read_failed_end _ _ _ (g.K.Sink.state c.args.sink.now) (g.K.Sink.state c.format_lines.new.sink) (g.K.Sink.state c.printed.new.sink) c.printed.result.status (n.read_failed refl) (n.writes (λ h. cc h)) n.lines c.printed.ensures.status

pub returns-in-TooMuch-clause-format : goal.returns-in-TooMuch-clause-format
returns-in-TooMuch-clause-format g c =
    let n = c.in-TooMuch.ensures in
    too_long_end _ _ _ (g.K.Sink.state c.args.sink.now) (g.K.Sink.state c.format_lines.new.sink) (g.K.Sink.state c.printed-in-TooMuch.new.sink) c.printed-in-TooMuch.result.status (n.reads (λ h. cc h)) (n.writes (λ h. cc h)) n.lines c.printed-in-TooMuch.ensures.status

pub returns-in-WriteFailed-clause-format : goal.returns-in-WriteFailed-clause-format
returns-in-WriteFailed-clause-format g c =
    let n = c.in-WriteFailed.ensures in
    write_failed_end _ _ _ (g.K.Sink.state c.args.sink.now) (g.K.Sink.state c.format_lines.new.sink) c.finished-in-WriteFailed.result.status c.finished-in-WriteFailed.ensures.status (n.reads (λ h. cc h)) (n.write_failed refl) n.lines

pub returns-in-NoMemory-clause-format : goal.returns-in-NoMemory-clause-format
returns-in-NoMemory-clause-format g c =
    let n = c.in-NoMemory.ensures in
    memory_end _ _ _ (g.K.Sink.state c.args.sink.now) (g.K.Sink.state c.format_lines.new.sink) c.without_memory.result.status c.without_memory.ensures.status (n.reads (λ h. cc h)) (n.writes (λ h. cc h)) n.lines

use Rattle.std.proofs.Common.{◌∙◌}
use Rattle.yarrow.proofs.BatchEnds.{shown_end, unshown_end}
use Rattle.yarrow.proofs.system.print_unready.Goals as goal

pub returns-in-Ok-clause-prints : goal.returns-in-Ok-clause-prints
returns-in-Ok-clause-prints g c =
    shown_end c.args.name.now c.args.why.now (g.K.Sink.state c.args.sink.now) (g.K.Sink.state c.printed.new.sink) c.printed.result.status c.unready_status.result c.as_bytes.result.now
    c.unready_status.ensures (c.as_bytes.ensures.value ∙ c.in-Ok.ensures) c.printed.ensures.status

pub returns-in-Err-clause-prints : goal.returns-in-Err-clause-prints
returns-in-Err-clause-prints g c =
    unshown_end c.args.name.now c.args.why.now (g.K.Sink.state c.args.sink.now) c.without_memory.result.status c.without_memory.ensures.status

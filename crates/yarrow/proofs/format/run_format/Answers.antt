use Rattle.std.proofs.Common.{refl, ◌∙◌}
use Rattle.yarrow.proofs.FormatEnds.{ready_end, unready_end, unprinted_end}
use Rattle.yarrow.proofs.format.run_format.Goals as goal

pub returns-in-Ok-clause-format : goal.returns-in-Ok-clause-format
returns-in-Ok-clause-format g c =
    ready_end c.args.name.now _ _ _ _ (g.K.Sink.state c.args.sink.now) (g.K.Sink.state c.format_source.new.sink) c.format_source.result.status c.in-Ok.system c.in-Ok.ensures.ready c.format_source.ensures.format

pub returns-in-Ok-unready_line-clause-format : goal.returns-in-Ok-unready_line-clause-format
returns-in-Ok-unready_line-clause-format g c =
    unready_end c.args.name.now _ _ _ _ (g.K.Sink.state c.args.sink.now) (g.K.Sink.state c.printed.new.sink) c.printed.result.status c.in-Err.why c.in-Err.ensures.unready (refl, refl) _ c.as_bytes.result.now c.unready_status-status.ensures (c.as_bytes.ensures.value ∙ c.in-Ok-unready_line.ensures) c.printed.ensures.status

pub returns-clause-format : goal.returns-clause-format
returns-clause-format g c = unprinted_end c.args.name.now _ _ _ _ (g.K.Sink.state c.args.sink.now) c.without_memory.result.status c.without_memory.ensures.status (refl, refl)

use Rattle.std.proofs.Common.{◌∙◌}
use Rattle.pts_replay.proofs.Printing.{text_printed, text_failed}
use Rattle.pts_replay.proofs.input.print_lines.Goals as goal

pub returns-in_default-clause-part : goal.returns-in_default-clause-part
returns-in_default-clause-part g c =
    let part = c.in_default.ensures.part in
    text_failed c.args.lines.now c.loop-line.line-index c.line-item.result c.as_bytes.result.now (g.K.Sink.state c.args.sink.now).written (g.K.Sink.state c.loop-line.sink).written (g.K.Sink.state c.write_whole.new.sink).written
    c.loop-line-test.true (c.as_bytes.ensures.value ∙ (c.text.ensures ∙ c.line-item.is)) c.loop-line.invariant.written part.0 part.1 part.2

pub loop-line-preserved : goal.loop-line-preserved
loop-line-preserved g c = record {
  written = text_printed c.args.lines.now c.loop-line.line-index c.line-item.result c.as_bytes.result.now (g.K.Sink.state c.args.sink.now).written (g.K.Sink.state c.loop-line.sink).written (g.K.Sink.state c.write_whole.new.sink).written
      c.loop-line-test.true (c.as_bytes.ensures.value ∙ (c.text.ensures ∙ c.line-item.is)) c.loop-line.invariant.written c.in-Ok.ensures.written;
  faults = c.in-Ok.ensures.faults ∙ c.loop-line.invariant.faults;
}

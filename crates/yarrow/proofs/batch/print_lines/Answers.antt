use Rattle.std.proofs.Common.{◌++◌, ◌∙◌, ap, subst}
use Rattle.std.specs.Prelude.{codes}
use Rattle.pts_io.specs.Counts.{Rose}
use Rattle.yarrow.proofs.Texts.{line_printed, line_failed}
use Rattle.yarrow.proofs.batch.print_lines.Goals as goal

pub returns-in_default-write_whole-clause-write_failed : goal.returns-in_default-write_whole-clause-write_failed
returns-in_default-write_whole-clause-write_failed g c = λ _.
    let part = c.in_default-write_whole.ensures.part in (
      subst (λ f. Rose f (g.K.Sink.state c.write_whole.new.sink).faults) c.loop-line.invariant.faults c.in_default-write_whole.ensures.failed,
      line_failed c.args.lines.now c.loop-line.line-index c.line-item.result c.as_bytes.result.now (g.K.Sink.state c.args.sink.now).written (g.K.Sink.state c.loop-line.sink).written (g.K.Sink.state c.write_whole.new.sink).written
          c.loop-line-test.true (c.as_bytes.ensures.value ∙ (c.in-Ok.ensures ∙ ap (λ t. t ++ codes "\n") c.line-item.is)) c.loop-line.invariant.written part.0 part.1 part.2,
    )

pub loop-line-preserved : goal.loop-line-preserved
loop-line-preserved g c = record {
  written = line_printed c.args.lines.now c.loop-line.line-index c.line-item.result c.as_bytes.result.now (g.K.Sink.state c.args.sink.now).written (g.K.Sink.state c.loop-line.sink).written (g.K.Sink.state c.write_whole.new.sink).written
      c.loop-line-test.true (c.as_bytes.ensures.value ∙ (c.in-Ok.ensures ∙ ap (λ t. t ++ codes "\n") c.line-item.is)) c.loop-line.invariant.written c.in-Ok-write_whole.ensures.written;
  faults = c.in-Ok-write_whole.ensures.faults ∙ c.loop-line.invariant.faults;
}

use Rattle.std.proofs.Common.{◌≡◌, take}
use Rattle.std.specs.Io.KnownBytes.{append_known}
use Rattle.yarrow.specs.Batches.{text_of}
use Rattle.yarrow.proofs.batch.print_lines.Given as goal

abbrev pub invariant-loop-line : goal.invariant-loop-line
invariant-loop-line g l = record {
  written : (g.K.Sink.state l.sink).written ≡ append_known (g.K.Sink.state l.fn.sink).written (text_of (take l.line-index l.lines));
  faults : (g.K.Sink.state l.sink).faults ≡ (g.K.Sink.state l.fn.sink).faults;
}

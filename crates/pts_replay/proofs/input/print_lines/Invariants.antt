use Rattle.std.proofs.Common.{◌≡◌, take}
use Rattle.std.specs.Io.KnownBytes.{append_known}
use Rattle.pts_replay.specs.Replies.{joined}
use Rattle.pts_replay.proofs.input.print_lines.Given as goal

abbrev pub invariant-loop-line : goal.invariant-loop-line
invariant-loop-line g l = record {
  written : (g.K.Sink.state l.sink).written ≡ append_known (g.K.Sink.state l.fn.sink).written (joined (take l.line-index l.lines));
  faults : (g.K.Sink.state l.sink).faults ≡ (g.K.Sink.state l.fn.sink).faults;
}

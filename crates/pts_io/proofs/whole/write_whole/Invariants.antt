use Rattle.std.proofs.Common.{◌≡◌, ◌≤◌, ◌-◌, length, take}
use Rattle.std.specs.Io.KnownBytes.{append_known}
use Rattle.pts_io.proofs.whole.write_whole.Given as goal

abbrev pub invariant-loop-done : goal.invariant-loop-done
invariant-loop-done g l =
    (l.done ≤ length l.bytes) × ((g.K.Sink.state l.sink).faults ≡ (g.K.Sink.state l.initial.sink).faults) × ((g.K.Sink.state l.sink).written ≡ append_known (g.K.Sink.state l.initial.sink).written (take l.done l.bytes))

abbrev pub decreases-loop-done : goal.decreases-loop-done
decreases-loop-done g l = length l.bytes - l.done

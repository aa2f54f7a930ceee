use Rattle.std.proofs.Common.{◌≡◌, ◌≤◌, ◌-◌, vec_len}
use Rattle.std.specs.Io.KnownBytes.{prepend_known}
use Rattle.pts_io.specs.Counts.{raised}
use Rattle.pts_io.proofs.whole.read_whole.Given as goal

abbrev pub invariant-turns : goal.invariant-turns
invariant-turns g l =
    (vec_len l.bytes ≤ l.limit) × ((g.S.Source.state l.source).faults ≡ (g.S.Source.state l.initial.source).faults) × ((g.S.Source.state l.source).given ≡ raised (g.S.Source.state l.initial.source).given (vec_len l.bytes)) × ((g.S.Source.state l.initial.source).left ≡ prepend_known l.bytes.items (g.S.Source.state l.source).left)

abbrev pub decreases-turns : goal.decreases-turns
decreases-turns g l = l.limit - vec_len l.bytes

use Rattle.std.proofs.Common.{◌≡◌, ◌+◌, ◌-◌, ◌≤◌, length, false}
use Rattle.std.specs.Io.KnownBytes.{prepend_known}
use Rattle.pts_io.specs.Counts.{raised}
use Rattle.pts_io.specs.Lines.{NoFeed, Gets}
use Rattle.pts_io.proofs.lines.LineReader.read_line.Given as goal

abbrev pub invariant-turns : goal.invariant-turns
invariant-turns g l =
    (l.self.taken ≤ l.self.limit)
    × NoFeed l.self.held
    × ((g.S.Source.state l.source).faults ≡ (g.S.Source.state l.initial.source).faults)
    × (l.self.limit ≡ l.initial.self.limit)
    × (l.initial.self.taken ≤ l.self.taken)
    × ((g.S.Source.state l.source).given ≡ raised (g.S.Source.state l.initial.source).given (l.self.taken - l.initial.self.taken))
    × (prepend_known l.self.held (g.S.Source.state l.source).left ≡ prepend_known l.initial.self.held (g.S.Source.state l.initial.source).left)
    × (length l.self.held + l.initial.self.taken ≡ length l.initial.self.held + l.self.taken)
    × (l.self.ended ≡ false)
    × Gets l.initial.self.held l.self.held (g.S.Source.state l.initial.source).left (g.S.Source.state l.source).left

abbrev pub decreases-turns : goal.decreases-turns
decreases-turns g l = l.self.limit - l.self.taken

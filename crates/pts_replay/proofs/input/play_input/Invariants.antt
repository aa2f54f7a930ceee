use Rattle.std.proofs.Common.{◌≡◌, true, ℕ, List, [], ◌≤◌}
use Rattle.std.specs.Io.KnownBytes.{append_known, IsAtEnd}
use Rattle.pts_io.specs.Counts.{raised}
use Rattle.pts_replay.proofs.Progress.{Stands}
use Rattle.pts_replay.proofs.input.play_input.Given as goal

abbrev pub invariant-loop-before : goal.invariant-loop-before
invariant-loop-before g l = record {
  limit : l.reader.limit ≡ l.limit;
  inside : l.reader.taken ≤ l.limit;
  ended : l.reader.ended ≡ true → IsAtEnd (g.S.Source.state l.source).left;
  empty : l.reader.ended ≡ true → l.reader.held ≡ [];
  reads : (g.S.Source.state l.source).faults ≡ (g.S.Source.state l.initial.source).faults;
  writes : (g.K.Sink.state l.sink).faults ≡ (g.K.Sink.state l.initial.sink).faults;
  given : (g.S.Source.state l.source).given ≡ raised (g.S.Source.state l.initial.source).given l.reader.taken;
  ready : g.G.Game.ready l.world l.game;
  keeps : g.G.Game.keeps l.initial.game l.game;
  lines : (out : List ℕ) × ((g.K.Sink.state l.sink).written ≡ append_known (g.K.Sink.state l.initial.sink).written out) × Stands (g.G.Game.rounds l.world) l.numbered (g.S.Source.state l.initial.source).left (g.S.Source.state l.source).left (g.G.Game.state l.initial.game) l.reader.taken l.before l.reader.held out (g.G.Game.state l.game) l.reader.ended;
}

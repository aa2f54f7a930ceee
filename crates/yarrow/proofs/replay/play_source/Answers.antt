use Rattle.pts_replay.specs.Games.{state_of}
use Rattle.yarrow.proofs.ReplayEnds.{play_ended}
use Rattle.yarrow.proofs.replay.play_source.Goals as goal

pub returns-clause-plays : goal.returns-clause-plays
returns-clause-plays g c =
    play_ended c.args.world.now.system (g.S.Source.state c.args.source.now) (g.S.Source.state c.play_input.new.source) (g.K.Sink.state c.args.sink.now) (g.K.Sink.state c.play_input.new.sink) c.play_input.result (state_of c.args.game.now) (state_of c.play_input.new.game) c.requires.start c.play_input.ensures.plays

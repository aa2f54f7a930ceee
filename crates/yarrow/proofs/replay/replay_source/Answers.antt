use Rattle.std.proofs.Common.{◌∙◌}
use Rattle.pts_core.specs.Cores.{labelled}
use Rattle.yarrow.proofs.BatchEnds.{none_entered_legal}
use Rattle.yarrow.proofs.ReplayEnds.{input_end, no_play, left_front, same_orders}
use Rattle.yarrow.proofs.replay.replay_source.Goals as goal

pub returns-in_default-clause-prints : goal.returns-in_default-clause-prints
returns-in_default-clause-prints g c =
    no_play c.args.system (g.S.Source.state c.args.source.now) (g.K.Sink.state c.args.sink.now) c.without_memory.result.status c.without_memory.result.order (labelled c.without_memory.result.context) c.without_memory.ensures.status c.without_memory.ensures.order

pub returns-in_default-clause-legal : goal.returns-in_default-clause-legal
returns-in_default-clause-legal g c = none_entered_legal c.args.system c.without_memory.result.context.entries c.without_memory.ensures.context

pub returns-clause-prints : goal.returns-clause-prints
returns-clause-prints g c =
    let p = c.play_source-end.ensures in
    let f = c.finish.ensures in
    input_end c.args.system (g.S.Source.state c.args.source.now) (g.S.Source.state c.play_source-end.new.source) (g.K.Sink.state c.args.sink.now) (g.K.Sink.state c.play_source-end.new.sink) (g.K.Sink.state c.finish.new.sink)
    c.finish.result.status c.finish.result.order c.play_source-end.new.game.core.core.history (labelled c.finish.result.context)
    (left_front c.finish.result.context c.front_of.result c.play_source-end.new.game.core.core.history f.entries f.labels c.front_of.ensures.front)
    c.play_source-end.result p.read_failed p.reads p.write_failed p.writes
    (same_orders c.args.system (g.S.Source.state c.args.source.now) (g.S.Source.state c.play_source-end.new.source) (g.K.Sink.state c.args.sink.now) (g.K.Sink.state c.play_source-end.new.sink) c.play_source-end.result
    c.play_source-end.new.game.orders.items c.finish.result.order c.play_source-end.new.game.core.core.history (f.order ∙ c.of.ensures) p.plays)
    f.prints

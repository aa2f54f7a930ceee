use Rattle.std.proofs.Common.{refl}
use Rattle.pts_core.specs.Cores.{labelled}
use Rattle.yarrow.proofs.ReplayEnds.{ready_run, unready_run}
use Rattle.yarrow.proofs.replay.run_replay.Goals as goal

pub returns-in-Ok-clause-replay : goal.returns-in-Ok-clause-replay
returns-in-Ok-clause-replay g c =
    ready_run c.args.name.now (g.L.Library.state c.args.library.now) (g.L.Library.state c.system_named.new.library) (g.S.Source.state c.args.source.now) (g.S.Source.state c.replay_source.new.source) (g.K.Sink.state c.args.sink.now) (g.K.Sink.state c.replay_source.new.sink) c.replay_source.result.status c.replay_source.result.order (labelled c.replay_source.result.context)
    c.in-Ok.system c.in-Ok.ensures.ready c.replay_source.ensures.legal c.replay_source.ensures.prints

pub returns-in-Err-clause-replay : goal.returns-in-Err-clause-replay
returns-in-Err-clause-replay g c =
    let p = c.print_unready.ensures in
    unready_run c.args.name.now (g.L.Library.state c.args.library.now) (g.L.Library.state c.system_named.new.library) (g.S.Source.state c.args.source.now) (g.S.Source.state c.args.source.now) (g.K.Sink.state c.args.sink.now) (g.K.Sink.state c.print_unready.new.sink) c.print_unready.result.status c.print_unready.result.order (labelled c.print_unready.result.context)
    c.in-Err.why c.in-Err.ensures.unready (refl, refl) p.order p.context p.labels p.prints

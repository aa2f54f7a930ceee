use Rattle.pts_spec.specs.SpecFile.{system_of}
use Rattle.yarrow.proofs.BatchEnds.{in_system_end, no_system_end, none_legal_in}
use Rattle.yarrow.proofs.batch.batch_files.Goals as goal

pub returns-in-Ok-clause-prints : goal.returns-in-Ok-clause-prints
returns-in-Ok-clause-prints g c =
    in_system_end c.args.spec.now c.args.name.now c.args.text.now c.args.bytes.now (g.K.Sink.state c.args.sink.now) (g.K.Sink.state c.batch_module.new.sink) c.batch_module.result.status c.in-Ok.system c.batch_module.result.context.entries c.batch_module.result.context.labels
    c.in-Ok.ensures.ready c.batch_module.ensures.prints

pub returns-in-Err-clause-prints : goal.returns-in-Err-clause-prints
returns-in-Err-clause-prints g c =
    no_system_end c.args.spec.now c.args.name.now c.args.text.now c.args.bytes.now c.in-Err.why (g.K.Sink.state c.args.sink.now) (g.K.Sink.state c.print_unready.new.sink) c.print_unready.result.status c.print_unready.result.context.entries c.print_unready.result.context.labels
    c.in-Err.ensures.refused c.print_unready.ensures.context c.print_unready.ensures.labels c.print_unready.ensures.prints

pub returns-in-Err-clause-legal : goal.returns-in-Err-clause-legal
returns-in-Err-clause-legal g c = none_legal_in (system_of c.args.text.now) c.print_unready.result.context.entries c.print_unready.ensures.context

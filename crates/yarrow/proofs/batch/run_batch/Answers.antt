use Rattle.std.proofs.Common.{refl, sym, ◌∙◌}
use Rattle.yarrow.proofs.BatchEnds.{no_specification_run, no_file_run, no_memory_run, both_read_run}
use Rattle.yarrow.proofs.TwoReads.{has_again, unread_later}
use Rattle.yarrow.proofs.batch.run_batch.Goals as goal

pub returns-in-Err-clause-batch : goal.returns-in-Err-clause-batch
returns-in-Err-clause-batch g c =
    no_specification_run c.args.spec.now c.args.name.now (g.L.Library.state c.args.library.now) (g.L.Library.state c.file_named.new.library) (g.K.Sink.state c.args.sink.now)
    c.print_unready.result.status c.print_unready.result.context.entries c.print_unready.result.context.labels (g.K.Sink.state c.print_unready.new.sink) c.in-Err.why
    c.in-Err.ensures.unread c.print_unready.ensures.context c.print_unready.ensures.labels c.print_unready.ensures.prints

pub returns-in_default-clause-batch : goal.returns-in_default-clause-batch
returns-in_default-clause-batch g c =
    no_memory_run c.args.spec.now c.args.name.now (g.L.Library.state c.args.library.now) (g.L.Library.state c.file_named.new.library) (g.K.Sink.state c.args.sink.now)
    c.without_memory.result.status c.without_memory.result.context.entries c.without_memory.result.context.labels
    c.without_memory.ensures.status c.without_memory.ensures.context c.without_memory.ensures.labels

pub returns-in-Ok-file_named-clause-batch : goal.returns-in-Ok-file_named-clause-batch
returns-in-Ok-file_named-clause-batch g c =
    let first = c.in-Ok.ensures.read in
    let second = c.in-Ok-file_named.ensures.read in
    both_read_run c.args.spec.now c.args.name.now (g.L.Library.state c.args.library.now) (g.L.Library.state c.file_named-2.new.library) (g.K.Sink.state c.args.sink.now)
    c.batch_files.result.status c.batch_files.result.context.entries c.batch_files.result.context.labels (g.K.Sink.state c.batch_files.new.sink)
    c.as_slice.result.now c.as_slice-in-Ok-file_named.result.now c.as_str.result.now (c.as_str.ensures.value ∙ c.in-Ok-format.ensures.ok)
    (has_again (g.L.Library.state c.args.library.now) (g.L.Library.state c.args.library.now) c.args.spec.now c.in-Ok.text.items c.as_slice.result.now refl c.as_slice.ensures.value first.3)
    (has_again (g.L.Library.state c.args.library.now) (g.L.Library.state c.file_named.new.library) c.as_str.result.now c.in-Ok-file_named.bytes.items c.as_slice-in-Ok-file_named.result.now c.file_named.ensures.files c.as_slice-in-Ok-file_named.ensures.value second.3)
    (second.0 ∙ first.0) c.batch_files.ensures.legal c.batch_files.ensures.prints

pub returns-clause-batch : goal.returns-clause-batch
returns-clause-batch g c =
    let first = c.in-Ok.ensures.read in
    no_file_run c.args.spec.now c.args.name.now (g.L.Library.state c.args.library.now) (g.L.Library.state c.file_named-2.new.library) (g.K.Sink.state c.args.sink.now)
    c.print_unready-in-Err-file_named.result.status c.print_unready-in-Err-file_named.result.context.entries c.print_unready-in-Err-file_named.result.context.labels (g.K.Sink.state c.print_unready-in-Err-file_named.new.sink)
    c.in-Err-file_named.why c.in-Ok.text.items c.as_str-in-Err-file_named.result.now (c.as_str-in-Err-file_named.ensures.value ∙ c.in-Ok-format.ensures.ok)
    first.3
    (unread_later (g.L.Library.state c.args.library.now) (g.L.Library.state c.file_named.new.library) (g.L.Library.state c.file_named-2.new.library) c.as_str.result.now c.file_named.ensures.files first.0 first.1 first.2
    c.as_str-in-Err-file_named.result.now c.in-Err-file_named.why (c.as_str.ensures.value ∙ sym c.as_str-in-Err-file_named.ensures.value) c.in-Err-file_named.ensures.unread)
    c.print_unready-in-Err-file_named.ensures.context c.print_unready-in-Err-file_named.ensures.labels c.print_unready-in-Err-file_named.ensures.prints

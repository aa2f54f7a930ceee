use Rattle.std.proofs.Common.{Some, map, ap, ◌∙◌, string_bytes}
use Rattle.yarrow.specs.Commands.{command_seen}
use Rattle.yarrow.proofs.ModuleWord.{batch_names_module}
use Rattle.yarrow.proofs.run.run.Goals as goal

pub run_batch-requires : goal.run_batch-requires
run_batch-requires g c = record {
  named = batch_names_module (map string_bytes c.args.words.now) c.in-Some-Batch.spec.now c.in-Some-Batch.name.now (c.in-Some-Batch.ensures ∙ ap (λ asked. Some (command_seen asked)) c.in-Some-Batch.field-0-is);
}

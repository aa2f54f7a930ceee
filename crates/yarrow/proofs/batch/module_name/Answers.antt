use Rattle.yarrow.proofs.ModuleWord.{only_memory}
use Rattle.yarrow.proofs.batch.module_name.Goals as goal

pub unreachable-requires : goal.unreachable-requires
unreachable-requires c = only_memory c.args.text.now c.in-Err.fault c.requires.named c.in_default.not-Memory c.in-Err.ensures.refused

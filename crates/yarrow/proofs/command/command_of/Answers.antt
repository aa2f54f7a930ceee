use Rattle.std.proofs.Common.{string_bytes}
use Rattle.yarrow.proofs.NoForm.{no_form}
use Rattle.yarrow.proofs.command.command_of.Goals as goal

pub returns-in_default-as_str : goal.returns-in_default-as_str
returns-in_default-as_str c =
    no_form string_bytes c.args.words.now c.word-item.result c.as_str.result.now c.in-len1-up.len_at_least c.word-item.is c.as_str.ensures.value c.in_default-as_str.not-check c.in_default-as_str.not-format c.in_default-as_str.not-batch c.in_default-as_str.not-replay

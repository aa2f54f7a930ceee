use Rattle.std.proofs.Common.{arith}
use Rattle.pts_tokens.proofs.Words.{cut_word}
use Rattle.pts_tokens.proofs.length.sort_length.Goals as goal

pub overflow_add-result : goal.overflow_add-result
overflow_add-result c = omega (arith, (cut_word _ c.utf8.behind).fits, c.word_length.ensures)

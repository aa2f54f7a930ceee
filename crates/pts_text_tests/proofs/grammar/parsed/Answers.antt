use Rattle.std.proofs.lemmas.Str.{IsCharBoundary-start}
use Rattle.pts_text_tests.proofs.grammar.parsed.Goals as goal

pub read_tokens-requires : goal.read_tokens-requires
read_tokens-requires c = IsCharBoundary-start c.args.text.now c.utf8.text

use Rattle.std.proofs.Common.{sym, ◌∙◌, ap}
use Rattle.pts_names.specs.Name.{width}
use Rattle.pts_tokens.proofs.Words.{word_runs}
use Rattle.pts_tokens.proofs.length.word_length.Goals as goal

pub returns-in-Some : goal.returns-in-Some
returns-in-Some c = c.run_length.ensures ∙ ap width (word_runs c.in-Some.first c.args.text.now c.next.new.self.rest.now c.utf8.text (sym c.chars.ensures.rest ∙ c.in-Some.ensures.steps.0) (sym c.starts_identifier.ensures ∙ c.if-starts_identifier.true))

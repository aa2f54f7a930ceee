use Rattle.std.proofs.Common.{sym, ◌∙◌, ap, ◌++◌}
use lib.Utf8.{encode}
use Rattle.pts_tokens.proofs.tokens.first_char.Goals as goal

pub returns : goal.returns
returns c = sym c.chars-characters.ensures.rest ∙ (c.in_ok-first.ensures.steps.0 ∙ ap (λ l. encode c.in_ok-first.first ++ l) (sym c.as_str.ensures))

use Rattle.std.proofs.Common.{sym, ◌∙◌, ap}
use Rattle.pts_grammar.specs.Seen.{part_of}
use Rattle.pts_grammar.specs.Open.{outcome_of}
use Rattle.pts_lines.proofs.Kept.{term_is}
use Rattle.pts_lines.proofs.term.first_term.Goals as goal

pub returns-in-Read : goal.returns-in-Read
returns-in-Read c = record { term = term_is c.args.length c.in-Read.count c.args.tokens.now c.split_at.result.1.now (part_of c.in-Read.term) (ap (outcome_of c.args.tokens.now) (sym c.in-Read.is) ∙ c.in_ok-term.ensures) (c.split_at.ensures.back ∙ ap (λ n. Rattle.std.specs.Prelude.drop n c.args.tokens.now) c.min.ensures) }

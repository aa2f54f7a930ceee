use Rattle.std.proofs.Common.{◌≡◌, subst, length}
use Rattle.std.proofs.lemmas.Result.{err_from_is_err_and}
use Rattle.pts_grammar.specs.Refusals.{NoneTooMany, Refuses}
use Rattle.pts_parser.proofs.Texts.{tree_refused}
use Rattle.pts_parser.proofs.read.read_tree.Goals as goal

pub returns-in_err-parse_term-clause-refused : goal.returns-in_err-parse_term-clause-refused
returns-in_err-parse_term-clause-refused c =
    let fault = c.in_err-parse_term.field-0.0 in
    let p = err_from_is_err_and c.from_residual-in_err-parse_term.result c.from_residual-in_err-parse_term.ensures.1 in
    rw (p.1, p.2) (tree_refused c.args.text.now c.args.from c.in_ok-tokens.tokens.items fault c.in_ok-tokens.ensures.tokens
    (subst (λ ts. Refuses (length c.args.text.now) ts fault) c.as_slice.ensures.value c.in_err-parse_term.ensures.refused))

pub returns-clause-parentheses : goal.returns-clause-parentheses
returns-clause-parentheses c = (c.in_ok-tokens.tokens.items, c.in_ok-tokens.ensures.tokens, subst (NoneTooMany 2000) c.as_slice.ensures.value c.in_ok-parse_term.ensures.parentheses)

use Rattle.std.proofs.Common.{subst, length}
use Rattle.std.proofs.lemmas.Str.{IsCharBoundary-start}
use Rattle.pts_grammar.specs.Seen.{within}
use Rattle.pts_grammar.specs.Open.{more}
use Rattle.pts_lines.specs.Seen.{line_of}
use Rattle.pts_lines.specs.Forms.{AnswersAs, run_line}
use Rattle.pts_lines.proofs.Lines.{says, shallow, line_few, refuses, line_exact}
use Rattle.pts_lines.proofs.read.read_line.Goals as goal

pub read_tokens-requires : goal.read_tokens-requires
read_tokens-requires c = IsCharBoundary-start c.args.text.now c.utf8.text

pub returns-clause-line : goal.returns-clause-line
returns-clause-line c = says c.args.text.now c.in_ok-tokens.tokens.items c.in_ok-tokens.ensures.tokens c.line.result (subst (λ ts. AnswersAs line_of c.line.result (run_line within more (length c.args.text.now) ts)) c.as_slice.ensures.value c.line.ensures)

pub returns-clause-depth : goal.returns-clause-depth
returns-clause-depth c = shallow c.args.text.now c.in_ok-tokens.tokens.items c.in_ok-tokens.ensures.tokens c.line.result (subst (λ ts. AnswersAs line_of c.line.result (run_line within more (length c.args.text.now) ts)) c.as_slice.ensures.value c.line.ensures)

pub returns-clause-refused : goal.returns-clause-refused
returns-clause-refused c = refuses c.args.text.now c.in_ok-tokens.tokens.items c.in_ok-tokens.ensures.tokens c.line.result (subst (λ ts. AnswersAs line_of c.line.result (run_line within more (length c.args.text.now) ts)) c.as_slice.ensures.value c.line.ensures)

pub returns-clause-exact : goal.returns-clause-exact
returns-clause-exact c = line_exact c.args.text.now c.in_ok-tokens.tokens.items c.in_ok-tokens.ensures.tokens c.line.result (subst (λ ts. AnswersAs line_of c.line.result (run_line within more (length c.args.text.now) ts)) c.as_slice.ensures.value c.line.ensures)

pub returns-clause-parentheses : goal.returns-clause-parentheses
returns-clause-parentheses c = line_few c.args.text.now c.in_ok-tokens.tokens.items c.in_ok-tokens.ensures.tokens c.line.result (subst (λ ts. AnswersAs line_of c.line.result (run_line within more (length c.args.text.now) ts)) c.as_slice.ensures.value c.line.ensures)

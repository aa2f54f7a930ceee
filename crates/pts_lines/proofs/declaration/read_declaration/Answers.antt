use Rattle.std.proofs.Common.{subst, length}
use Rattle.std.proofs.lemmas.Str.{IsCharBoundary-start}
use Rattle.pts_grammar.specs.Seen.{within}
use Rattle.pts_grammar.specs.Open.{more}
use Rattle.pts_lines.specs.Seen.{declaration_of}
use Rattle.pts_lines.specs.Forms.{AnswersAs, run_declaration}
use Rattle.pts_lines.proofs.Lines.{declares, declares_shallow, declaration_few, declares_not, declaration_exact}
use Rattle.pts_lines.proofs.declaration.read_declaration.Goals as goal

pub read_tokens-requires : goal.read_tokens-requires
read_tokens-requires c = IsCharBoundary-start c.args.text.now c.utf8.text

pub returns-clause-declaration : goal.returns-clause-declaration
returns-clause-declaration c = declares c.args.text.now c.in_ok-tokens.tokens.items c.in_ok-tokens.ensures.tokens c.declaration_at.result (subst (λ ts. AnswersAs declaration_of c.declaration_at.result (run_declaration within more (length c.args.text.now) ts)) c.as_slice.ensures.value c.declaration_at.ensures)

pub returns-clause-depth : goal.returns-clause-depth
returns-clause-depth c = declares_shallow c.args.text.now c.in_ok-tokens.tokens.items c.in_ok-tokens.ensures.tokens c.declaration_at.result (subst (λ ts. AnswersAs declaration_of c.declaration_at.result (run_declaration within more (length c.args.text.now) ts)) c.as_slice.ensures.value c.declaration_at.ensures)

pub returns-clause-refused : goal.returns-clause-refused
returns-clause-refused c = declares_not c.args.text.now c.in_ok-tokens.tokens.items c.in_ok-tokens.ensures.tokens c.declaration_at.result (subst (λ ts. AnswersAs declaration_of c.declaration_at.result (run_declaration within more (length c.args.text.now) ts)) c.as_slice.ensures.value c.declaration_at.ensures)

pub returns-clause-exact : goal.returns-clause-exact
returns-clause-exact c = declaration_exact c.args.text.now c.in_ok-tokens.tokens.items c.in_ok-tokens.ensures.tokens c.declaration_at.result (subst (λ ts. AnswersAs declaration_of c.declaration_at.result (run_declaration within more (length c.args.text.now) ts)) c.as_slice.ensures.value c.declaration_at.ensures)

pub returns-clause-parentheses : goal.returns-clause-parentheses
returns-clause-parentheses c = declaration_few c.args.text.now c.in_ok-tokens.tokens.items c.in_ok-tokens.ensures.tokens c.declaration_at.result (subst (λ ts. AnswersAs declaration_of c.declaration_at.result (run_declaration within more (length c.args.text.now) ts)) c.as_slice.ensures.value c.declaration_at.ensures)

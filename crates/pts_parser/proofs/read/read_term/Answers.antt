use Rattle.std.proofs.Common.{Ok, Err, reverse}
use Rattle.std.specs.Prelude.{Result, IfErr}
use Rattle.pts_terms.specs.declared.term.Term.{Term}
use Rattle.pts_grammar.specs.Seen.{syntax_of}
use Rattle.pts_parser.specs.declared.fault.ReadFault.{ReadFault}
use Rattle.pts_parser.specs.Resolution.{resolved, Answers}
use Rattle.pts_parser.specs.Reading.{RefusesTerm}
use Rattle.pts_parser.proofs.Unknown.{resolution_refuses}
use Rattle.pts_parser.proofs.read.read_term.Goals as goal

pub returns-clause-refused : goal.returns-clause-refused
returns-clause-refused g c = by c.resolve.result c.resolve.ensures
  where
    by : (r : Result Term ReadFault) → Answers r (resolved c.args.system.now.sorts (g.S.Scope.constants c.args.scope.now) (reverse c.args.locals.now) (syntax_of c.in_ok-tree.tree)) → IfErr r (λ e. RefusesTerm c.args.text.now c.args.from c.args.system.now.sorts (g.S.Scope.constants c.args.scope.now) c.args.locals.now e)
    by (Ok t) h = tt
    by (Err e) h = resolution_refuses c.args.system.now.sorts (g.S.Scope.constants c.args.scope.now) c.args.text.now c.args.from c.args.locals.now (syntax_of c.in_ok-tree.tree) e c.in_ok-tree.ensures.tree c.in_ok-tree.ensures.depth c.in_ok-tree.ensures.parentheses h

-- The plain data that a term of the program stands for.
use Rattle.pts_terms.specs.declared.term.Term.{Term}
use Rattle.pts_terms.specs.declared.term.Term.TheOpen.{Term-F}
use Rattle.pts_terms.specs.declared.term.Term.TheFolds.{fold-Term}
use Rattle.pts_terms.specs.Tree.{Named, sort, const, var, app, named_lam, named_pi, named_let}

abbrev pub named_step : Term-F Named → Named
named_step (Term-F.Sort s) = sort s.0
named_step (Term-F.Const c) = const c
named_step (Term-F.Var i) = var i
named_step (Term-F.App f a) = app f a
named_step (Term-F.Lam x A b) = named_lam x A b
named_step (Term-F.Pi x A B) = named_pi x A B
named_step (Term-F.Let x a A b) = named_let x a A b

-- The term, with its printed names.
abbrev pub named : Term → Named
named = fold-Term Named named_step

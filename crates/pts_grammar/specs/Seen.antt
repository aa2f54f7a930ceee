-- What the parser's values stand for.
use Rattle.std.specs.Prelude.{if◌then◌else◌, nat_le, Option, Some, None, option_map}
use Rattle.pts_grammar.specs.declared.tree.Tree.{Tree}
use Rattle.pts_grammar.specs.declared.tree.Tree.TheOpen.{Tree-F}
use Rattle.pts_grammar.specs.declared.tree.Tree.TheFolds.{fold-Tree}
use Rattle.pts_grammar.specs.Syntax.{Syntax, sort, name, app, lam, pi, let_in, depth_of}
use Rattle.pts_grammar.specs.Machine.{Build, bound_syntax}

abbrev pub tree_step : Tree-F Syntax → Syntax
tree_step (Tree-F.Sort p s) = sort p s
tree_step (Tree-F.Named p x) = name p x
tree_step (Tree-F.App f a) = app f a
tree_step (Tree-F.Lam x A b) = lam x A b
tree_step (Tree-F.Pi x A B) = pi x A B
tree_step (Tree-F.Let x d A b) = let_in x d A b

-- The syntax that a tree of the program stands for.
abbrev pub syntax_of : Tree → Syntax
syntax_of = fold-Tree Syntax tree_step

-- A part of a term as the parser keeps it: the syntax, if it is at most 2,000 deep.
abbrev pub Subtree : Type 0
Subtree = Option Syntax

abbrev pub within : Syntax → Subtree
within T = if nat_le (depth_of T) 2000 then Some T else None

abbrev pub with_two : (Syntax → Syntax → Syntax) → Subtree → Subtree → Subtree
with_two f (Some T) (Some U) = within (f T U)
with_two f (Some T) None = None
with_two f None U = None

abbrev pub with_three : (Syntax → Syntax → Syntax → Syntax) → Subtree → Subtree → Subtree → Subtree
with_three f (Some T) (Some U) (Some V) = within (f T U V)
with_three f (Some T) (Some U) None = None
with_three f (Some T) None V = None
with_three f None U V = None

abbrev pub parts : Build Subtree
parts = record {
  of_sort = λ p s. Some (sort p s);
  of_name = λ p x. Some (name p x);
  applied = with_two app;
  bound = λ b x. with_two (bound_syntax b x);
  defined = λ x. with_three (let_in x);
}

-- A part of the program.
abbrev pub part_of : Option Tree → Subtree
part_of = option_map syntax_of

-- What a line of the program says.
use Rattle.std.specs.Prelude.{ℕ, max, List, [], ◌∷◌, map, Some, None, option_map}
use Rattle.pts_grammar.specs.Syntax.{Syntax, depth_of}
use Rattle.pts_grammar.specs.Seen.{syntax_of}
use Rattle.pts_lines.specs.declared.line.Line.{Line as TheLine}
use Rattle.pts_lines.specs.declared.declaration.DeclaringLine.{DeclaringLine}
use Rattle.pts_lines.specs.declared.command.Declaring.{Declaring}
use Rattle.pts_lines.specs.declared.command.Declaring.TheVariants as declaring
use Rattle.pts_lines.specs.declared.command.Alone.TheVariants.{Look, Commit, Goals, Qed, Abort, Undo, Discard, Draft}
use Rattle.pts_lines.specs.declared.command.Named.TheVariants.{Load, Accept, Intro}
use Rattle.pts_lines.specs.declared.command.Placed.TheVariants.{Unfold, Show}
use Rattle.pts_lines.specs.declared.command.Asked.TheVariants.{Exact, Apply, Convert, Infer, Reduce}
use Rattle.pts_lines.specs.declared.command.WithType.TheVariants.{Assume, Theorem, Cut}
use Rattle.pts_lines.specs.Lines.{Line, alone, of_plain, of_name, of_term, of_type, renaming, budget, equality, definition, instantiation}

abbrev pub line_of : TheLine → Line
line_of TheLine.Look = alone Look
line_of TheLine.Commit = alone Commit
line_of (TheLine.Load m) = of_plain Load m
line_of (TheLine.Instance m l ts) = instantiation m l (map syntax_of ts.items)
line_of (TheLine.Accept m) = of_plain Accept m
line_of (TheLine.Assume x t) = of_type Assume x (syntax_of t)
line_of (TheLine.Define x a t) = definition x (option_map syntax_of a) (syntax_of t)
line_of (TheLine.Theorem x t) = of_type Theorem x (syntax_of t)
line_of (TheLine.Intro x) = of_plain Intro x
line_of (TheLine.Exact t) = of_term Exact (syntax_of t)
line_of (TheLine.Apply t) = of_term Apply (syntax_of t)
line_of (TheLine.Cut x t) = of_type Cut x (syntax_of t)
line_of (TheLine.Unfold p x) = of_name Unfold p x
line_of (TheLine.Convert t) = of_term Convert (syntax_of t)
line_of TheLine.Goals = alone Goals
line_of TheLine.Qed = alone Qed
line_of TheLine.Abort = alone Abort
line_of TheLine.Undo = alone Undo
line_of (TheLine.Budget n) = budget n
line_of (TheLine.Infer t) = of_term Infer (syntax_of t)
line_of (TheLine.Reduce t) = of_term Reduce (syntax_of t)
line_of (TheLine.Equal t u) = equality (syntax_of t) (syntax_of u)
line_of (TheLine.Rename x y) = renaming x y
line_of TheLine.Discard = alone Discard
line_of (TheLine.Show p x) = of_name Show p x
line_of TheLine.Draft = alone Draft

-- A declaration of the program.
abbrev pub declaration_of : DeclaringLine → Declaring × Line
declaration_of (DeclaringLine.Parameter x t) = (declaring.Parameter, of_type Assume x (syntax_of t))
declaration_of (DeclaringLine.Assume x t) = (declaring.Assume, of_type Assume x (syntax_of t))
declaration_of (DeclaringLine.Define x a t) = (declaring.Define, definition x (option_map syntax_of a) (syntax_of t))

-- The depth of the deepest term of a line, or 0.
abbrev pub deepest : List Syntax → ℕ
deepest [] = 0
deepest (T ∷ Ts) = max (depth_of T) (deepest Ts)

abbrev pub terms_of : Line → List Syntax
terms_of (of_term c T) = T ∷ []
terms_of (of_type c x T) = T ∷ []
terms_of (equality T U) = T ∷ U ∷ []
terms_of (definition x None T) = T ∷ []
terms_of (definition x (Some A) T) = A ∷ T ∷ []
terms_of (instantiation m l Ts) = Ts
terms_of L = []
